-- ONE LAW FOR EVERYTHING THAT IS PUT PIECE BY PIECE: of a whole text so much is done, and the rest is left.
use mathlib.Core.Path.{◌≡◌, refl, sym, ap, subst, ◌∙◌}
use mathlib.Core.List.{List, [], ◌++◌, append_assoc, append-nil}
use Prim.Native.Nat.{ℕ, ◌≤◌}
use lib.ListN.{length}
use Rattle.text.specs.Put.{Put}
use Rattle.text.proofs.Puts.{then}
use Rattle.text.proofs.Texts.{none}

pub record Going (old : List ℕ) (start : ℕ) (whole : List ℕ) (at : ℕ) (buf : List ℕ) (rest : List ℕ) : Type 0 where
  pub done : List ℕ
  pub put : Put old start done at buf
  pub left : whole ≡ done ++ rest

pub begin : (old : List ℕ) (start : ℕ) (whole : List ℕ) → start ≤ length old → Going old start whole start old whole
begin old start whole h = record { done = []; put = none old start h; left = refl }

-- one piece more: the rest was that piece and what is left now
pub more : {old whole buf new rest : List ℕ} {start at r : ℕ} (p left : List ℕ) → rest ≡ p ++ left → Going old start whole at buf rest → Put buf at p r new → Going old start whole r new left
more p left e g q =
    record { done = g.done ++ p; put = then g.put q; left = g.left ∙ ap (λ (l : List ℕ). g.done ++ l) e ∙ sym (append_assoc g.done p left) }

pub over : {old whole buf rest : List ℕ} {start at : ℕ} → rest ≡ [] → Going old start whole at buf rest → Put old start whole at buf
over {old} {whole} {buf} {rest} {start} {at} e g =
    subst (λ (l : List ℕ). Put old start l at buf) (sym (g.left ∙ ap (λ (l : List ℕ). g.done ++ l) e ∙ append-nil g.done)) g.put
