-- One answer of each public function, and one content of the room: any two that its promise allows are equal.
use Rattle.rules.specs.Verdicts.{Verdict}
use Prim.Native.Nat.{ℕ, ◌≤◌}
use mathlib.Core.Path.{◌≡◌, sym, ◌∙◌}
use mathlib.Core.List.{List}
use Rattle.entities.specs.declared.Revision.{Revision}
use Rattle.probe.specs.Fields.{probe_size, probe_of, room_verdict, written, WritesBack, ReadsBack}
use Rattle.probe.specs.declared.Probe.{Probe}
use Rattle.probe.specs.declared.Fields.{Fields}

pub read-unique : (u : Revision) (s : List ℕ) (x y : Fields) → (x ≡ probe_of u s) × WritesBack u x.probe s → (y ≡ probe_of u s) × WritesBack u y.probe s → x ≡ y
read-unique u s x y p q = p.0 ∙ sym q.0

pub write-unique :
    (u : Revision) (p : Probe) (room : List ℕ) (v w : Verdict) (l m : List ℕ) →
    ((v ≡ room_verdict u room) × (l ≡ written u p room)) × ReadsBack u p l →
    ((w ≡ room_verdict u room) × (m ≡ written u p room)) × ReadsBack u p m →
    (v ≡ w) × (l ≡ m)
write-unique u p room v w l m a b = (a.0.0 ∙ sym b.0.0, a.0.1 ∙ sym b.0.1)

pub size-of-unique : (u : Revision) (x y : ℕ) → (x ≡ probe_size u) × (26 ≤ x) × (x ≤ 48) → (y ≡ probe_size u) × (26 ≤ y) × (y ≤ 48) → x ≡ y
size-of-unique u x y p q = p.0 ∙ sym q.0
