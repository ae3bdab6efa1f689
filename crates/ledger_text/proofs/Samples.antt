-- Texts that antt computes.
use mathlib.Core.Path.{◌≡◌, refl}
use mathlib.Core.List.{List, [], ◌∷◌}
use Prim.Native.Nat.{ℕ}
use Rattle.trace.specs.declared.State.TheVariants.{Good, Bad, Refused}
use Rattle.text.specs.Decimal.{decimal}
use Rattle.text.specs.Text.{bytes}
use Rattle.ledger_text.specs.Report.{rows, text_of}

zero-is-a-digit : decimal 0 ≡ bytes "0"
unfolding decimal
zero-is-a-digit = refl

most : decimal 18446744073709551615 ≡ bytes "18446744073709551615"
unfolding decimal
most = refl

bad : text_of (Bad 3) [] ≡ bytes "bad record 3\n"
unfolding decimal
bad = refl

refused : text_of (Refused 52 10) [] ≡ bytes "refused 52 at record 10\n"
unfolding decimal
refused = refl

counted : List ℕ
counted = 0 ∷ 1 ∷ 2 ∷ 3 ∷ 4 ∷ 5 ∷ 6 ∷ 7 ∷ 8 ∷ 9 ∷ 10 ∷ 11 ∷ 12 ∷ 13 ∷ 14 ∷ 15 ∷ 16 ∷ 17 ∷ 18 ∷ 19 ∷ 20 ∷ 21 ∷ 22 ∷ 23 ∷ 24 ∷ 25 ∷ 26 ∷ 27 ∷ 28 ∷ 29 ∷ 30 ∷ []

ledger : text_of Good counted ≡ bytes "delivered 0 1\ngap 2 3\nerror 4 5\nclock 6 7\nlong 8 9\ncut 10 11\nempty 12 13\nstill 14 15\nmixed 16 17\nunder way 18 19\nstray 20 21\nunreadable 22 23\nheaders 24 25\nlost 26\nidle 27\nticks 28\nbackward 29\nuntimed 30\n"
unfolding decimal rows counted
ledger = refl
