-- REPORTS THAT PRINT ALIKE have the same state and, where good, the same numbers.
use mathlib.Core.Path.{◌≡◌, refl, ap}
use mathlib.Core.List.{List, [], ◌∷◌, ◌++◌, append_cancel_left}
use Prim.Native.Nat.{ℕ}
use native.Mathlib.Omega.{arith}
use lib.ListN.{length, get_or}
use Rattle.session_rules.specs.Accounts.{number_count}
use Rattle.trace.specs.declared.State.{State}
use Rattle.trace.specs.declared.State.TheVariants.{Good, Bad, Refused}
use Rattle.text.specs.Text.{bytes, number, line, total}
use Rattle.text.proofs.Different.{number-split, line-split, lines-different}
use Rattle.ledger_text.specs.Report.{rows, text_of}

every-number : total rows ≡ number_count
unfolding rows
every-number = refl

abbrev first : List ℕ → ℕ
first l = get_or l 0 0

bad-split : (n m : ℕ) → text_of (Bad n) [] ≡ text_of (Bad m) [] → Bad n ≡ Bad m
bad-split n m e =
    let w : ((n ∷ []) ≡ (m ∷ [])) × (◌≡◌ {A = List ℕ} [] [])
    = line-split (bytes "bad record") (n ∷ []) (m ∷ []) [] [] refl (ap (λ (l : List ℕ). l ++ []) e) in
    let z : n ≡ m = cc in
    ap (λ (i : ℕ). Bad i) z

refused-split : (j l n m : ℕ) → text_of (Refused j n) [] ≡ text_of (Refused l m) [] → Refused j n ≡ Refused l m
refused-split j l n m e =
    let s : List ℕ = line (bytes " at record") (n ∷ []) in
    let t : List ℕ = line (bytes " at record") (m ∷ []) in
    let k : (j ≡ l) × (s ≡ t) = number-split j l s t (omega arith) (omega arith) (append_cancel_left (bytes "refused") (number j ++ s) (number l ++ t) e) in
    let w : ((n ∷ []) ≡ (m ∷ [])) × (◌≡◌ {A = List ℕ} [] [])
    = line-split (bytes " at record") (n ∷ []) (m ∷ []) [] [] refl (ap (λ (l : List ℕ). l ++ []) k.1) in
    let z : n ≡ m = cc in
    rw (k.0, z)

not-good-bad : (n : ℕ) → Bad n ≡ Good → ⊥
not-good-bad n p = let z : ◌≡◌ {A = ℕ} 0 1 = cc in omega arith

not-good-refused : (k n : ℕ) → Refused k n ≡ Good → ⊥
not-good-refused k n p = let z : ◌≡◌ {A = ℕ} 0 1 = cc in omega arith

-- the text tells the state, and of a good trace the whole ledger
pub text-different : (s t : State) (ns ms : List ℕ) → length ns ≡ number_count → length ms ≡ number_count → text_of s ns ≡ text_of t ms → (s ≡ t) × (s ≡ Good → ns ≡ ms)
unfolding rows
text-different Good Good ns ms h k e = (refl, λ p. lines-different rows ns ms h k e)
text-different Good (Bad m) ns ms h k e = let z : ◌≡◌ {A = ℕ} 100 98 = ap first e in absurd (omega arith)
text-different Good (Refused l m) ns ms h k e = let z : ◌≡◌ {A = ℕ} 100 114 = ap first e in absurd (omega arith)
text-different (Bad n) Good ns ms h k e = let z : ◌≡◌ {A = ℕ} 98 100 = ap first e in absurd (omega arith)
text-different (Bad n) (Bad m) ns ms h k e = (bad-split n m e, λ p. absurd (not-good-bad n p))
text-different (Bad n) (Refused l m) ns ms h k e = let z : ◌≡◌ {A = ℕ} 98 114 = ap first e in absurd (omega arith)
text-different (Refused j n) Good ns ms h k e = let z : ◌≡◌ {A = ℕ} 114 100 = ap first e in absurd (omega arith)
text-different (Refused j n) (Bad m) ns ms h k e = let z : ◌≡◌ {A = ℕ} 114 98 = ap first e in absurd (omega arith)
text-different (Refused j n) (Refused l m) ns ms h k e = (refused-split j l n m e, λ p. absurd (not-good-refused j n p))
