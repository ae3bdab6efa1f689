-- Going over records: some and then some more, with lines before them, with no lines, and past the record that decides.
use Prim.Native.Nat.{ℕ, zero, suc, ◌≤◌}
use mathlib.Core.Path.{◌≡◌, refl, sym, ap, ◌∙◌}
use mathlib.Core.Bool.{true}
use mathlib.Core.List.{List, [], ◌∷◌, ◌++◌, append_assoc, append-nil}
use native.Mathlib.Omega.{arith}
use lib.ListN.{length, take, drop}
use Rattle.cuts.specs.Cuts.{cut_by, cut_of, Folds}
use Rattle.records.specs.declared.Form.{Form}
use Rattle.records.specs.declared.Form.TheVariants.{Short, Long}
use Rattle.records.specs.Form.{size_of}
use Rattle.records.specs.Record.{records_by, records_of}
use Rattle.trace.specs.declared.State.{State}
use Rattle.trace.specs.declared.State.TheVariants.{Good, Bad, Refused}
use Rattle.trace.specs.Trace as trace
use Rattle.trace.specs.Inner.{is_decided}
use Rattle.frame_lines.specs.declared.Show.{Show}
use Rattle.frame_lines.specs.declared.Counted.{Counted}
use Rattle.replay.specs.declared.Replay.{Replay}
use Rattle.replay.specs.Inner.{replay_of, step_of, text_of, Out, over, out_of}

-- the records of a trace are those of the stream that has its form's size
pub records-cut : (f : Form) (l : List ℕ) → records_of f l ≡ cut_of (size_of f) l
unfolding records_of cut_of
records-cut f l = go (length l) l
  where
    go : (k : ℕ) (l : List ℕ) → records_by f k l ≡ cut_by (size_of f) k l
    go zero l = refl
    go (suc k) [] = refl
    go (suc k) (b ∷ bs) = ap (take (size_of f) (b ∷ bs) ∷◌) (go k (drop (size_of f) (b ∷ bs)))

pub size-least : (f : Form) → 64 ≤ size_of f
size-least Short = omega arith
size-least Long = omega arith

module _ (f : Form) (w : Show) where
  pub folds : Folds (over f w)
  folds x [] ys = refl
  folds x (r ∷ xs) ys = folds (out_of (step_of f w x.replay.trace x.replay.counted r) (x.text ++ text_of f w x.replay.trace x.replay.counted r)) xs ys

  -- lines that stand before
  pub over-text : (rs : List (List ℕ)) (p : Replay) (t : List ℕ) → over f w (out_of p t) rs ≡ out_of (over f w (out_of p []) rs).replay (t ++ (over f w (out_of p []) rs).text)
  over-text [] p t = ap (out_of p) (sym (append-nil t))
  over-text (r ∷ rs) p t =
      let q : Replay = step_of f w p.trace p.counted r in
      let u : List ℕ = text_of f w p.trace p.counted r in
      over-text rs q (t ++ u)
      ∙ ap (out_of (over f w (out_of q []) rs).replay) (append_assoc t u (over f w (out_of q []) rs).text)
      ∙ (λ i. out_of (sym (over-text rs q u) i).replay (t ++ (sym (over-text rs q u) i).text))

  -- the trace is the trace of the records
  pub over-trace : (rs : List (List ℕ)) (x : Out) → (over f w x rs).replay.trace ≡ trace.traced f x.replay.trace rs
  over-trace [] x = refl
  over-trace (r ∷ rs) x = over-trace rs (out_of (step_of f w x.replay.trace x.replay.counted r) (x.text ++ text_of f w x.replay.trace x.replay.counted r))

  -- a bad or refused record decides: nothing is read after it
  bad-stays : (rs : List (List ℕ)) (s : _) (n : ℕ) (c : Counted) (t : List ℕ) → over f w (out_of (replay_of (record { session = s; state = Bad n }) c) t) rs ≡ out_of (replay_of (record { session = s; state = Bad n }) c) t
  unfolding trace.step_of
  bad-stays [] s n c t = refl
  bad-stays (r ∷ rs) s n c t = ap (λ (u : List ℕ). over f w (out_of (replay_of (record { session = s; state = Bad n }) c) u) rs) (append-nil t) ∙ bad-stays rs s n c t

  refused-stays : (rs : List (List ℕ)) (s : _) (k n : ℕ) (c : Counted) (t : List ℕ) → over f w (out_of (replay_of (record { session = s; state = Refused k n }) c) t) rs ≡ out_of (replay_of (record { session = s; state = Refused k n }) c) t
  unfolding trace.step_of
  refused-stays [] s k n c t = refl
  refused-stays (r ∷ rs) s k n c t = ap (λ (u : List ℕ). over f w (out_of (replay_of (record { session = s; state = Refused k n }) c) u) rs) (append-nil t) ∙ refused-stays rs s k n c t

  stays : (q : State) (rs : List (List ℕ)) (s : _) (c : Counted) (t : List ℕ) → is_decided q ≡ true → over f w (out_of (replay_of (record { session = s; state = q }) c) t) rs ≡ out_of (replay_of (record { session = s; state = q }) c) t
  stays Good rs s c t e = absurd (omega (arith, wrong e))
    where
      wrong : is_decided Good ≡ true → ◌≡◌ {A = ℕ} 0 1
      wrong e = cc
  stays (Bad n) rs s c t e = bad-stays rs s n c t
  stays (Refused k n) rs s c t e = refused-stays rs s k n c t

  pub decided-stays : (rs : List (List ℕ)) (p : Replay) (t : List ℕ) → is_decided p.trace.state ≡ true → over f w (out_of p t) rs ≡ out_of p t
  decided-stays rs p t e = stays p.trace.state rs p.trace.session p.counted t e
