-- Two answers that a promise allows are equal.
use Rattle.session_rules.specs.Options.{Ended, Stamp}
use Prim.Native.Nat.{ℕ}
use mathlib.Core.Path.{◌≡◌, sym, ap, ◌∙◌}
use mathlib.Core.List.{List}
use Rattle.session_rules.specs.declared.Fate.{Fate}
use Rattle.session_rules.specs.declared.Answer.{Answer}
use Rattle.session_rules.specs.declared.Phase.{Phase}
use Rattle.session_rules.specs.declared.Account.{Account}
use Rattle.session_rules.specs.declared.Step.{Step}
use Rattle.session_rules.specs.declared.Ledger.{Ledger}
use Rattle.session_rules.specs.Ledger.{no_ledger, count_of, bytes_of, fated_of, answered_of, shown_of}
use Rattle.session_rules.specs.Step.{step_of}
use Rattle.session_rules.specs.Accounts.{place_of}
use Rattle.ledger.specs.Inner.{plus_at, entered_in, ended_in, ledger_with}

pub new-unique : (x y : Ledger) → x ≡ no_ledger → y ≡ no_ledger → x ≡ y
new-unique x y p q = p ∙ sym q

pub count-unique : (l : Ledger) (a : Account) (x y : ℕ) → x ≡ count_of l (place_of a) → y ≡ count_of l (place_of a) → x ≡ y
count-unique l a x y p q = p ∙ sym q

pub bytes-unique : (l : Ledger) (a : Account) (x y : ℕ) → x ≡ bytes_of l (place_of a) → y ≡ bytes_of l (place_of a) → x ≡ y
bytes-unique l a x y p q = p ∙ sym q

pub plus-unique : (l : List ℕ) (i n : ℕ) (x y : List ℕ) → x ≡ plus_at l i n → y ≡ plus_at l i n → x ≡ y
plus-unique l i n x y p q = p ∙ sym q

pub entered-unique : (l : List ℕ) (a : Account) (n : ℕ) (x y : List ℕ) → x ≡ entered_in l a n → y ≡ entered_in l a n → x ≡ y
entered-unique l a n x y p q = p ∙ sym q

pub ended-unique : (l : List ℕ) (e : Ended) (gone : ℕ) (x y : List ℕ) → x ≡ ended_in l e gone → y ≡ ended_in l e gone → x ≡ y
ended-unique l e gone x y p q = p ∙ sym q

pub fated-unique : (l : Ledger) (f : Fate) (n : ℕ) (x y : List ℕ) (r s : Stamp) → ledger_with x r ≡ fated_of l f n → ledger_with y s ≡ fated_of l f n →
    (x ≡ y) × (r ≡ s)
fated-unique l f n x y r s p q = (ap (λ (z : Ledger). z.numbers) (p ∙ sym q), ap (λ (z : Ledger). z.last) (p ∙ sym q))

pub answered-unique : (l : Ledger) (a : Answer) (gone n : ℕ) (x y : List ℕ) (r s : Stamp) → ledger_with x r ≡ answered_of l a gone n →
    ledger_with y s ≡ answered_of l a gone n → (x ≡ y) × (r ≡ s)
answered-unique l a gone n x y r s p q = (ap (λ (z : Ledger). z.numbers) (p ∙ sym q), ap (λ (z : Ledger). z.last) (p ∙ sym q))

pub shown-unique : (l : Ledger) (w : Phase) (x y : Ledger) → x ≡ shown_of l w → y ≡ shown_of l w → x ≡ y
shown-unique l w x y p q = p ∙ sym q

pub step-between-unique : (earlier later : ℕ) (x y : Step) → x ≡ step_of earlier later → y ≡ step_of earlier later → x ≡ y
step-between-unique earlier later x y p q = p ∙ sym q
