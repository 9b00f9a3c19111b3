use Rattle.std.proofs.Common.{◌≡◌, sym, subst, rules}
use Rattle.std.proofs.lemmas.List.FromFn.{fill_by_all}
use Rattle.network.specs.Links.{no_link}
use Rattle.network.specs.Making.{Lawful}
use Rattle.samples.specs.Samples.{mesh, rung}
use Rattle.samples.proofs.Lawfulness.{mesh_lawful}
use Rattle.samples.proofs.networks.mesh_links.Goals as goal

pub returns : goal.returns
returns c =
    let made = c.from_fn.ensures.items in
    let same : c.from_fn.result ≡ mesh = fill_by_all rung c.from_fn.result 96 no_link made.long (λ k within. let call = made.at k no_link within in search rules) in
    record { value = same; lawful = subst (Lawful 32) (sym same) mesh_lawful }
