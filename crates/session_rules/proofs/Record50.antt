-- EXACTLY WHEN a session record is refused by 50: one of its row's conditions holds.
use mathlib.Core.Path.{◌≡◌}
use mathlib.Core.Bool.{true, false}
use mathlib.Core.Logic.{◌↔◌}
use Rattle.session_rules.proofs.Row50 as row
use Rattle.session_rules.specs.declared.Session.{Session}
use Rattle.session_rules.specs.Refusals.{ledger_of, record_broken, Keeps50}

module _ (s : Session) where
  pub row-50 : (record_broken s ≡ false) ↔ Keeps50 s
  row-50 = row.row-50 s.rest.opening s.rest.track.phase (ledger_of s) s.rest.taken

  pub row-50-given : (record_broken s ≡ true) ↔ (Keeps50 s → ⊥)
  row-50-given = row.row-50-given s.rest.opening s.rest.track.phase (ledger_of s) s.rest.taken
