-- The promise of `judge` leaves one answer.
use Rattle.rules.specs.Verdicts.{Verdict, refuse}
use Prim.Native.Nat.{ℕ, ◌<◌}
use mathlib.Core.Path.{◌≡◌, refl, ap}
use mathlib.Core.List.{List}
use lib.ListN.{length}
use Rattle.rules.specs.First.{NoneBelow, First}
use Rattle.rules.proofs.Firsts.{first-unique}
use Rattle.entities.specs.Table.{entity_at}
use Rattle.entities.specs.declared.Entity.{Entity}
use Rattle.sources.specs.Sources.{Judged, Judged.thirteen, Judged.fourteen, Judged.fifteen, Judged.fine}

clash : {P : ℕ → Type 0} {n i : ℕ} → i < n → First P n i → NoneBelow n P → ⊥
clash {i = i} l f g = g i l (f.here l)

module _ (s : List ℕ) (l : List Entity) where
  same : (c : ℕ) {P : ℕ → Type 0} (i j : ℕ) → First P (length l) i → First P (length l) j → refuse c (entity_at l i).offset ≡ refuse c (entity_at l j).offset
  same c {P} i j f g = ap (λ (k : ℕ). refuse c (entity_at l k).offset) (first-unique P (length l) i j f g)

  pub judge-unique : {v w : Verdict} → Judged s l v → Judged s l w → v ≡ w
  judge-unique (thirteen i l f) (thirteen j k g) = same 13 i j f g
  judge-unique (thirteen i l f) (fourteen j k g h) = absurd (clash l f g)
  judge-unique (thirteen i l f) (fifteen j k g h p) = absurd (clash l f g)
  judge-unique (thirteen i l f) (fine g h p) = absurd (clash l f g)
  judge-unique (fourteen i l f e) (thirteen j k g) = absurd (clash k g f)
  judge-unique (fourteen i l f e) (fourteen j k g h) = same 14 i j e h
  judge-unique (fourteen i l f e) (fifteen j k g h p) = absurd (clash l e h)
  judge-unique (fourteen i l f e) (fine g h p) = absurd (clash l e h)
  judge-unique (fifteen i l f e d) (thirteen j k g) = absurd (clash k g f)
  judge-unique (fifteen i l f e d) (fourteen j k g h) = absurd (clash k h e)
  judge-unique (fifteen i l f e d) (fifteen j k g h p) = same 15 i j d p
  judge-unique (fifteen i l f e d) (fine g h p) = absurd (clash l d p)
  judge-unique (fine f e d) (thirteen j k g) = absurd (clash k g f)
  judge-unique (fine f e d) (fourteen j k g h) = absurd (clash k h e)
  judge-unique (fine f e d) (fifteen j k g h p) = absurd (clash k p d)
  judge-unique (fine f e d) (fine g h p) = refl
