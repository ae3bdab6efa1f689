-- Two answers, and two contents of the lent buffer, that a promise allows are equal.
use Prim.Native.Nat.{ℕ}
use mathlib.Core.Path.{◌≡◌, sym, ◌∙◌}
use mathlib.Core.List.{List}
use lib.ListN.{length}
use Rattle.sizes.specs.declared.Opening.{Opening}
use Rattle.session_rules.specs.declared.Ledger.{Ledger}
use Rattle.session_rules.specs.declared.Session.{Session}
use Rattle.session_rules.specs.declared.Opened.{Opened}
use Rattle.session_rules.specs.declared.Taken.{Taken}
use Rattle.session_rules.specs.declared.Reported.{Reported}
use Rattle.session_rules.specs.declared.Closed.{Closed}
use Rattle.session_rules.specs.Refusals.{ledger_of}
use Rattle.session_rules.specs.Session.{open_of, take_of, buffer_of, lost_of, close_of}

pub open-unique : (o : Opening) (buffer : List ℕ) (x y : Opened) → x ≡ open_of o (length buffer) → y ≡ open_of o (length buffer) → x ≡ y
open-unique o buffer x y p q = p ∙ sym q

pub ledger-unique : (s : Session) (x y : Ledger) → x ≡ ledger_of s → y ≡ ledger_of s → x ≡ y
ledger-unique s x y p q = p ∙ sym q

pub count-unique : (s : Session) (room : ℕ) (t : List ℕ) (x y : Taken) → x ≡ take_of s room t → y ≡ take_of s room t → x ≡ y
count-unique s room t x y p q = p ∙ sym q

pub take-unique : (s : Session) (buffer t : List ℕ) (x y : Taken) → x ≡ take_of s (length buffer) t → y ≡ take_of s (length buffer) t → x ≡ y
take-unique s buffer t = count-unique s (length buffer) t

pub take-buffer-unique : (s : Session) (buffer t x y : List ℕ) → x ≡ buffer_of s buffer t → y ≡ buffer_of s buffer t → x ≡ y
take-buffer-unique s buffer t x y p q = p ∙ sym q

pub lost-unique : (s : Session) (x y : Reported) → x ≡ lost_of s → y ≡ lost_of s → x ≡ y
lost-unique s x y p q = p ∙ sym q

pub close-unique : (s : Session) (x y : Closed) → x ≡ close_of s → y ≡ close_of s → x ≡ y
close-unique s x y p q = p ∙ sym q
