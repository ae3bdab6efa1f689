-- Two answers, and two contents of the lent ledger, that a promise allows are equal.
use mathlib.Core.Path.{◌≡◌, sym, ap, ◌∙◌}
use Rattle.session.specs.declared.RestTaken.{RestTaken}
use Rattle.session.specs.declared.RestReported.{RestReported}
use Rattle.session.specs.declared.RestClosed.{RestClosed}
use Rattle.ledger_lent.specs.declared.Record.{Record}
use Rattle.ledger_lent.specs.declared.RecordTaken.{RecordTaken}
use Rattle.ledger_lent.specs.declared.RecordReported.{RecordReported}
use Rattle.ledger_lent.specs.declared.RecordClosed.{RecordClosed}
use Rattle.ledger_lent.specs.Lent.{taken_with, reported_with, closed_with}

pub take-unique : (z : RecordTaken) (l m : Record) (x y : RestTaken) → taken_with l x ≡ z → taken_with m y ≡ z → (l ≡ m) × (x ≡ y)
take-unique z l m x y p q = let e : taken_with l x ≡ taken_with m y = p ∙ sym q in (ap (λ (w : RecordTaken). record { bytes = w.bytes }) e, ap (λ (w : RecordTaken). w.taken) e)

pub lost-unique : (z : RecordReported) (l m : Record) (x y : RestReported) → reported_with l x ≡ z → reported_with m y ≡ z → (l ≡ m) × (x ≡ y)
lost-unique z l m x y p q = let e : reported_with l x ≡ reported_with m y = p ∙ sym q in (ap (λ (w : RecordReported). record { bytes = w.bytes }) e, ap (λ (w : RecordReported). w.reported) e)

pub close-unique : (z : RecordClosed) (l m : Record) (x y : RestClosed) → closed_with l x ≡ z → closed_with m y ≡ z → (l ≡ m) × (x ≡ y)
close-unique z l m x y p q = let e : closed_with l x ≡ closed_with m y = p ∙ sym q in (ap (λ (w : RecordClosed). record { bytes = w.bytes }) e, ap (λ (w : RecordClosed). w.closed) e)
