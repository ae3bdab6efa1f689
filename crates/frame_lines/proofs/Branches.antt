-- What each way of the code says of the lines.
use Rattle.std.specs.Prelude.{None, Option, Some}
use Rattle.session_rules.specs.declared.Step.{Step}
use Rattle.session_rules.specs.Options.{Stamp}
use Rattle.std.proofs.Common.{◌≡◌, ℕ, ◌+◌, ◌≤◌, List, [], ◌∷◌, ◌++◌, length, sym, refl, ap, ◌∙◌, subst, append_assoc, append-nil, arith}
use lib.Seq.{paste-zero}
use Rattle.text.specs.Put.{Put}
use Rattle.text.proofs.Puts.{then}
use Rattle.endings.specs.declared.How.{How}
use Rattle.endings.specs.declared.How.TheVariants.{Delivered, Still, Dropped}
use Rattle.endings.specs.declared.Ending.{Ending}
use Rattle.endings.specs.Inner.{told_in}
use Rattle.frame_lines.specs.declared.Show.{Show}
use Rattle.frame_lines.specs.declared.Counted.{Counted}
use Rattle.frame_lines.specs.Lines.{since_of, last_of, replay_text, frame_text}
use Rattle.frame_lines.specs.Inner.{line_most, next_number, replay_by, counted_by, line_of, counted_after, lines_in, counted_all}

pub lines_more : (show : Show) (c : Counted) (xs ys : List Ending) → lines_in show c (xs ++ ys) ≡ lines_in show c xs ++ lines_in show (counted_all show c xs) ys
lines_more show c [] ys = refl
lines_more show c (x ∷ xs) ys =
    ap (line_of show c x ++◌) (lines_more show (counted_after show c x) xs ys) ∙ sym (append_assoc (line_of show c x) (lines_in show (counted_after show c x) xs) _)

pub counted-more : (show : Show) (c : Counted) (xs ys : List Ending) → counted_all show c (xs ++ ys) ≡ counted_all show (counted_all show c xs) ys
counted-more show c [] ys = refl
counted-more show c (x ∷ xs) ys = counted-more show (counted_after show c x) xs ys

put-nothing : (buf : List ℕ) (at : ℕ) → at ≤ length buf → Put buf at [] at buf
put-nothing buf at h = record { next = omega arith; fits = h; bytes = paste-zero buf at []; size = refl }

-- what a line leaves: the text, the count and the place
abbrev Ended : Show → Counted → Ending → List ℕ → ℕ → ℕ → List ℕ → Counted → Type 0
Ended show c e old at r new d = Put old at (line_of show c e) r new × ((d ≡ counted_after show c e) × (r ≤ at + line_most))

abbrev Said : Show → Counted → List Ending → List ℕ → ℕ → ℕ → List ℕ → Counted → Type 0
Said show c es old at r new d = Put old at (lines_in show c es) r new × ((d ≡ counted_all show c es) × (r ≤ at + line_most))

module _ (c : Counted) (e : Ending) (old : List ℕ) (at : ℕ) where
  pub delivered : (s : Option Step) (m : ℕ) (l : Stamp) (r : ℕ) (new : List ℕ) → e.how ≡ Delivered → s ≡ since_of c.last e.stamp → m ≡ next_number c.number → l ≡ last_of c.last e.stamp
      → Put old at (replay_text c.number e.len s) r new → r ≤ at + line_most
      → Ended Show.Replay c e old at r new (record { number = m; last = l })
  delivered s m l r new h q n k p b = (
    subst (λ (w : How). Put old at (replay_by w c e.len e.stamp) r new) (sym h) (subst (λ (z : Option Step). Put old at (replay_text c.number e.len z) r new) q p),
    ((λ i. record { number = n i; last = k i }) ∙ ap (λ (w : How). counted_by w c e.stamp) (sym h), b),
  )

  pub still : (m : ℕ) (r : ℕ) (new : List ℕ) → e.how ≡ Still → m ≡ next_number c.number → Put old at (replay_text c.number e.len None) r new → r ≤ at + line_most
      → Ended Show.Replay c e old at r new (record { number = m; last = c.last })
  still m r new h n p b = (
    subst (λ (w : How). Put old at (replay_by w c e.len e.stamp) r new) (sym h) p,
    ((λ i. record { number = n i; last = c.last }) ∙ ap (λ (w : How). counted_by w c e.stamp) (sym h), b),
  )

  pub dropped : (w : _) → e.how ≡ Dropped w → at + line_most ≤ length old → Ended Show.Replay c e old at at old c
  dropped w h b = (
    subst (λ (w : How). Put old at (replay_by w c e.len e.stamp) at old) (sym h) (put-nothing old at (omega arith)),
    (ap (λ (w : How). counted_by w c e.stamp) (sym h), omega arith),
  )

module _ (show : Show) (c : Counted) (t : Option Ending) (old : List ℕ) (at : ℕ) where
  pub told_none : t ≡ None → at + line_most ≤ length old → Said show c (told_in t) old at at old c
  told_none h b = rw h (put-nothing old at (omega arith), (refl, omega arith))

  pub told-unshown : (e : Ending) → t ≡ Some e → show ≡ Show.Nothing → at + line_most ≤ length old → Said show c (told_in t) old at at old c
  told-unshown e h s b = rw (h, s) (put-nothing old at (omega arith), (refl, omega arith))

  pub told-replayed : (e : Ending) (r : ℕ) (new : List ℕ) (d : Counted) → t ≡ Some e → show ≡ Show.Replay → Ended Show.Replay c e old at r new d → Said show c (told_in t) old at r new d
  told-replayed e r new d h s x = rw (h, s) (subst (λ (l : List ℕ). Put old at l r new) (sym (append-nil (line_of Show.Replay c e))) x.0, (x.1.0, x.1.1))

  pub told-frame : (e : Ending) (m r : ℕ) (new : List ℕ) → t ≡ Some e → show ≡ Show.Frames → m ≡ next_number c.number → Put old at (frame_text c.number e) r new → r ≤ at + line_most
      → Said show c (told_in t) old at r new (record { number = m; last = c.last })
  told-frame e m r new h s n p b =
      rw (h, s) (subst (λ (l : List ℕ). Put old at l r new) (sym (append-nil (frame_text c.number e))) p, (λ i. record { number = n i; last = c.last }, b))

-- one after the other
pub both : (show : Show) (c d x : Counted) (xs ys : List Ending) (old mid new : List ℕ) (at m r : ℕ) → Said show c xs old at m mid d → Said show d ys mid m r new x
    → Put old at (lines_in show c (xs ++ ys)) r new × ((x ≡ counted_all show c (xs ++ ys)) × (r ≤ at + (line_most + line_most)))
both show c d x xs ys old mid new at m r p q = (
  subst (λ (l : List ℕ). Put old at l r new) (ap (λ (z : Counted). lines_in show c xs ++ lines_in show z ys) p.1.0 ∙ sym (lines_more show c xs ys)) (then p.0 q.0),
  (q.1.0 ∙ ap (λ (z : Counted). counted_all show z ys) p.1.0 ∙ sym (counted-more show c xs ys), omega (arith, p.1.1, q.1.1)),
)
