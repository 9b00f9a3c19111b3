use Rattle.std.proofs.Common.{◌≡◌, ◌-◌, ◌∷◌, get_or, sym, refl, ap, ◌∙◌, subst, arith}
use Rattle.std.specs.List.Sorted.{IsPermutation}
use Rattle.std.proofs.lemmas.List.{get_or_default, get_or-take, length-set}
use Rattle.base.specs.Bags.{held}
use Rattle.base.proofs.Places.{drop_written, fits_room, length_held, length_taken, take_written, taken_others}
use Rattle.base.proofs.bag.Bag.close_up.Goals as goal

pub returns : goal.returns
returns g c =
    let b = c.args.self.now in
    let ps = b.places.now in
    let place = c.args.place in
    let within = c.requires.within in
    let fits = fits_room b in
    let x = get_or ps place c.index-self-place.result in
    let end = c.index-self-last.result in
    let value : x ≡ get_or ps place x = get_or_default ps place c.index-self-place.result x (omega arith) in
    let left = take_written ps b.count place end fits within in
    record {
      value = value;
      after = record {
        count = sym (length_taken (held b) place ∙ ap (λ n. n - 1) (length_held b));
        holds = left;
        past = drop_written ps b.count place end fits within;
        places = length-set ps place (get_or ps (b.count - 1) end);
        lender = refl;
      };
      others = subst (λ l. IsPermutation (held b) (x ∷ l)) (sym left) (taken_others (held b) place x (omega (arith, length_held b)) (value ∙ sym (get_or-take b.count ps place x within)));
    }
