-- A starter's row of the ledger. Assumes nothing.
use Rattle.std.specs.Prelude.{ℕ, ◌+◌, min, true, false}
use Rattle.tables.specs.declared.ledger.Account.{Account}

-- a count of 32 bits after some more: it stays at the most that there is
abbrev pub added : ℕ → ℕ → ℕ
added count more = min (count + more) 4294967295

abbrev pub nothing_sent : Account
nothing_sent = record { accepted = false; sent = 0; handled = 0; put_out = 0 }

abbrev pub accepts : Account → ℕ → Account
accepts a sent = record { accepted = true; sent = added a.sent sent; handled = a.handled; put_out = a.put_out }

abbrev pub handles : Account → ℕ → Account
handles a sent = record { accepted = a.accepted; sent = added a.sent sent; handled = added a.handled 1; put_out = a.put_out }

abbrev pub puts_out : Account → Account
puts_out a = record { accepted = a.accepted; sent = a.sent; handled = a.handled; put_out = added a.put_out 1 }
