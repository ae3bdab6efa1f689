-- One record, all records of a slice, and a read.
use Rattle.session_rules.specs.Options.{Closing}
use Prim.Native.Nat.{ℕ, min, ◌+◌, ◌-◌, ◌*◌, ◌≤◌, ◌<◌}
use mathlib.Core.Path.{◌≡◌, refl, sym, ap, subst, ◌∙◌}
use mathlib.Core.Bool.{Bool, true, false, ◌||◌, true≢false}
use mathlib.Core.List.{List, [], ◌∷◌, ◌++◌}
use native.Mathlib.Omega.{arith}
use lib.ListN.{length, take, drop, length-append}
use lib.Seq.{paste-zero}
use Rattle.rules.proofs.Rows.{or-second}
use Rattle.rules.proofs.Lists.{no-elements}
use Rattle.rules.proofs.Chunks.{chunk-whole}
use Rattle.text.specs.Put.{Put}
use Rattle.text.proofs.Puts.{then}
use Rattle.cuts.specs.Cuts.{cut_of}
use Rattle.cuts.proofs.Walk.{chunk-first}
use Rattle.session_rules.specs.Accounts.{number_count}
use Rattle.session_rules.specs.declared.Rest.{Rest}
use Rattle.session_rules.specs.declared.Session.{Session}
use Rattle.session_rules.specs.declared.Outcome.{Outcome}
use Rattle.session.specs.Inner.{whole_of}
use Rattle.session_rules.specs.Call.{Ask}
use Rattle.records.specs.declared.Form.{Form}
use Rattle.records.specs.declared.Form.TheVariants.{Short, Long}
use Rattle.records.specs.Form.{size_of, head_of, most_of}
use Rattle.records.specs.Record.{length_at, record_bad}
use Rattle.records.proofs.Fine.{Fine, fine}
use Rattle.trace.specs.declared.State.{State}
use Rattle.trace.specs.declared.State.TheVariants.{Good, Bad, Refused}
use Rattle.trace.specs.declared.Trace.{Trace}
use Rattle.trace.specs.declared.Said.{Said}
use Rattle.trace.specs.declared.Begun as trace-begun
use Rattle.sizes.specs.declared.Opening.{Opening}
use Rattle.trace.specs.declared.Going.{Going}
use Rattle.trace.specs.Record.{record_ask}
use Rattle.trace.specs.Trace as trace
use Rattle.trace.specs.Inner.{going_with, good_with, is_decided}
use Rattle.trace.proofs.Runs.{step-sized}
use Rattle.endings.specs.declared.Ending.{Ending}
use Rattle.endings.specs.declared.Endings.{Endings}
use Rattle.endings.specs.Inner.{none_told, tell_taken, tell_closed, list_in}
use Rattle.frame_lines.specs.declared.Show.{Show}
use Rattle.frame_lines.specs.declared.Show.TheVariants.{Nothing, Replay as Lines, Frames}
use Rattle.frame_lines.specs.declared.Counted.{Counted}
use Rattle.frame_lines.specs.Inner.{lines_in, counted_all}
use Rattle.replay.specs.declared.Replay.{Replay}
use Rattle.replay.specs.declared.Lined.{Lined}
use Rattle.replay.specs.Inner.{no_lines, replay_of, begin_of, tell_said, Fits, step_of, text_of, over, two_lines, room_for, is_silent, out_of, Ran}
use Rattle.replay.proofs.Over.{size-least, decided-stays}

-- ---- one record
whole-size : (f : Form) → head_of f + most_of f ≡ size_of f
whole-size Short = refl
whole-size Long = refl

pub said_fits : (f : Form) (s : Session) (r : List ℕ) → Fits f r (trace.said_of f s r)
unfolding trace.said_of
said_fits f s r = go (s.rest.closed || record_bad f r) refl (record_ask f r)
  where
    go : (b : Bool) → (s.rest.closed || record_bad f r) ≡ b → (c : Ask) → Fits f r (trace.said_by b s c)
    go true e c = tt
    go false e Ask.lost = tt
    go false e Ask.close = tt
    go false e (Ask.transfer t) =
        let g : Fine f r = fine f r (or-second s.rest.closed (record_bad f r) e) in
        (omega (arith, g.size, size-least f), omega (arith, g.size, g.short, whole-size f))

pub fits_said : (f : Form) (s : Session) (r : List ℕ) (said : Said) → said ≡ trace.said_of f s r → Fits f r said
fits_said f s r said e = subst (Fits f r) (sym e) (said_fits f s r)

pub head_small : (f : Form) → head_of f ≤ 4
head_small Short = omega arith
head_small Long = omega arith

-- the bytes of a record that was a transfer
pub fits-transfer : (f : Form) (r : List ℕ) (said : Said) (x : Outcome) → said ≡ Said.Transfer x → Fits f r said → (4 ≤ length r) × (head_of f + length_at f r ≤ length r)
fits-transfer f r said x e h = subst (Fits f r) e h

pub tells-transfer : (f : Form) (s : Rest) (r : List ℕ) (said : Said) (x : Outcome) (y : Endings) (from n : ℕ) → said ≡ Said.Transfer x → from ≡ head_of f → n ≡ length_at f r
    → y ≡ tell_taken s (take (from + n - from) (drop from r)) x → y ≡ tell_said f s r said
tells-transfer f s r said x y from n e a b q =
    q ∙ ap (λ (k : ℕ). tell_taken s (take k (drop from r)) x) back ∙ (λ i. tell_taken s (take (b i) (drop (a i) r)) x) ∙ ap (tell_said f s r) (sym e)
  where
    back : from + n - from ≡ n
    back = omega arith

pub tells-close : (f : Form) (s : Rest) (r : List ℕ) (said : Said) (x : Closing) (y : Endings) → said ≡ Said.Close x → y ≡ tell_closed s x → y ≡ tell_said f s r said
tells-close f s r said x y e q = q ∙ ap (tell_said f s r) (sym e)

pub tells-nothing : (f : Form) (s : Rest) (r : List ℕ) (said : Said) → said ≡ Said.Nothing → none_told ≡ tell_said f s r said
tells-nothing f s r said e = ap (tell_said f s r) (sym e)

module _ (f : Form) (w : Show) (s : Rest) (m : List ℕ) (c : Counted) (r : List ℕ) where
  -- what the call answered, the frames that it ended, and their lines
  pub one-leads : (g : Going) (m' : List ℕ) (d : Counted) → going_with g m' ≡ trace.step_of f (good_with s m) r → g.said ≡ trace.said_of f (whole_of s m) r
      → d ≡ counted_all w c (list_in (tell_said f s r g.said))
      → replay_of (record { session = whole_of g.rest m'; state = g.state }) d ≡ step_of f w (good_with s m) c r
  one-leads g m' d e q u = λ i. replay_of (e i) ((u ∙ ap (λ (y : Said). counted_all w c (list_in (tell_said f s r y))) q) i)

  pub one-text : (g : Going) {old new : List ℕ} {at k : ℕ} → g.said ≡ trace.said_of f (whole_of s m) r
      → Put old at (lines_in w c (list_in (tell_said f s r g.said))) k new → Put old at (text_of f w (good_with s m) c r) k new
  one-text g {old} {new} {at} {k} q p = subst (λ (y : Said). Put old at (lines_in w c (list_in (tell_said f s r y))) k new) q p

pub put-nothing : (old : List ℕ) (at : ℕ) → at ≤ length old → Put old at [] at old
put-nothing old at h = record { next = omega arith; fits = h; bytes = paste-zero old at []; size = refl }

-- the lines of the frames that a call ended, or none where none is shown
module _ (w : Show) (c : Counted) (old : List ℕ) (at : ℕ) where
  abbrev Lined' : List Ending → ℕ → List ℕ → Counted → Type 0
  Lined' es r new d = Put old at (lines_in w c es) r new × ((d ≡ counted_all w c es) × (r ≤ at + two_lines))

  pub lined-silent : (es : List Ending) (x : Bool) → x ≡ is_silent w → x ≡ true → at + two_lines ≤ length old → Lined' es at old c
  lined-silent es x e q h =
      let n = quiet w (sym e ∙ q) es c in
      (subst (λ (l : List ℕ). Put old at l at old) (sym n.0) (put-nothing old at (omega arith)), (sym n.1, omega arith))
    where
      quiet : (v : Show) → is_silent v ≡ true → (es : List Ending) (c : Counted) → (lines_in v c es ≡ []) × (counted_all v c es ≡ c)
      quiet Nothing e [] c = (refl, refl)
      quiet Nothing e (y ∷ ys) c = quiet Nothing e ys c
      quiet Lines e es c = absurd (true≢false (sym e))
      quiet Frames e es c = absurd (true≢false (sym e))

  pub lined-told : (x y : Endings) (r : ℕ) (new : List ℕ) (d : Counted) → x ≡ y → Lined' (list_in x) r new d → Lined' (list_in y) r new d
  lined-told x y r new d e l = subst (λ (z : Endings). Lined' (list_in z) r new d) e l

pub begins : (o : Opening) (b : trace-begun.Begun) → b ≡ trace.begin_of o → record { replay = replay_of b.trace no_lines; start = b.start } ≡ begin_of o
begins o b e = ap (λ (y : trace-begun.Begun). record { replay = replay_of y.trace no_lines; start = y.start }) e

-- ---- the records of a slice, one by one: `left` is what is left of the bytes
pub record Following (f : Form) (w : Show) (p : Replay) (records old : List ℕ) (start : ℕ) (rest : Rest) (m : List ℕ) (c : Counted) (at : ℕ) (left new : List ℕ) : Type 0 where
  pub text : List ℕ
  pub leads : over f w (out_of (replay_of (good_with rest m) c) text) (cut_of (size_of f) left) ≡ over f w (out_of p []) (cut_of (size_of f) records)
  pub put : Put old start text at new
  pub whole : 0 < length left → at + 3 * length left ≤ start + 3 * length records
  pub most : at ≤ start + room_for (length records)
  pub places : length m ≡ number_count

good-state : (z : State) → is_decided z ≡ false → z ≡ Good
good-state Good e = refl
good-state (Bad n) e = absurd (true≢false e)
good-state (Refused k n) e = absurd (true≢false e)

pub positive : (f : Form) → 0 < size_of f
positive f = omega (arith, size-least f)

module _ (f : Form) (w : Show) (records old : List ℕ) (start : ℕ) where
  pub follow-begins : (rest : Rest) (m : List ℕ) (c : Counted) (left : List ℕ) → left ≡ records → start + room_for (length records) ≤ length old → length m ≡ number_count
      → Following f w (replay_of (good_with rest m) c) records old start rest m c start left old
  follow-begins rest m c left e room l = record {
    text = [];
    leads = ap (λ (l : List ℕ). over f w (out_of (replay_of (good_with rest m) c) []) (cut_of (size_of f) l)) e;
    put = put-nothing old start (omega arith);
    whole = λ h. omega (arith, ap length e);
    most = omega arith;
    places = l;
  }

  module _ (p : Replay) (rest : Rest) (m : List ℕ) (c : Counted) (at : ℕ) (left mid : List ℕ) (on : Following f w p records old start rest m c at left mid) where
    pub follow-room : 0 < length left → start + room_for (length records) ≤ length old → at + two_lines ≤ length mid
    follow-room h room = omega (arith, on.whole h, on.put.size)

    pub follow-ends : length left ≡ 0 → Ran f w p records old start (record { replay = replay_of (good_with rest m) c; at = at }) mid
    unfolding cut_of
    follow-ends h = record {
      text = on.text;
      leads = sym (ap (λ (l : List ℕ). over f w (out_of (replay_of (good_with rest m) c) on.text) (cut_of (size_of f) l)) (no-elements left h)) ∙ on.leads;
      put = on.put;
      most = on.most;
    }

    module _ (size : ℕ) (this more : List ℕ) (q : size ≡ size_of f) (e : left ≡ this ++ more) (long : length this ≡ min size (length left)) (h : 0 < length left) where
      both : length left ≡ length this + length more
      both = ap length e ∙ length-append this more

      n : length this ≡ min (size_of f) (length left)
      n = long ∙ ap (λ (k : ℕ). min k (length left)) q

      first : cut_of (size_of f) left ≡ this ∷ cut_of (size_of f) more
      first = chunk-first (size_of f) left this more (positive f) e n h

      module _ (rest' : Rest) (m' : List ℕ) (z : State) (d : Counted) (k : ℕ) (new : List ℕ)
          (step : replay_of (record { session = whole_of rest' m'; state = z }) d ≡ step_of f w (good_with rest m) c this)
          (put : Put mid at (text_of f w (good_with rest m) c this) k new) (small : k ≤ at + two_lines) (x : Bool) (tested : x ≡ is_decided z) where
        abbrev t : Trace
        t = record { session = whole_of rest' m'; state = z }

        abbrev text' : List ℕ
        text' = on.text ++ text_of f w (good_with rest m) c this

        leads' : over f w (out_of (replay_of t d) text') (cut_of (size_of f) more) ≡ over f w (out_of p []) (cut_of (size_of f) records)
        leads' =
            ap (λ (y : Replay). over f w (out_of y text') (cut_of (size_of f) more)) step
            ∙ sym (ap (over f w (out_of (replay_of (good_with rest m) c) on.text)) first) ∙ on.leads

        bounded : k ≤ start + room_for (length records)
        bounded = omega (arith, small, on.whole h)

        pub follow-decides : x ≡ true → Ran f w p records old start (record { replay = replay_of t d; at = k }) new
        follow-decides b = record {
          text = text';
          leads = sym (decided-stays f w (cut_of (size_of f) more) (replay_of t d) text' (sym tested ∙ b)) ∙ leads';
          put = then on.put put;
          most = bounded;
        }

        pub follow-on : x ≡ false → Following f w p records old start rest' m' d k more new
        follow-on b = record {
          text = text';
          leads = ap (λ (y : State). over f w (out_of (replay_of (record { session = whole_of rest' m'; state = y }) d) text') (cut_of (size_of f) more)) (sym (good-state z (sym tested ∙ b))) ∙ leads';
          put = then on.put put;
          whole = λ g. omega (arith, small, on.whole h, both, chunk-whole (size_of f) left this more e n g, size-least f);
          most = bounded;
          places = ap (λ (y : Replay). length y.trace.session.numbers) step ∙ step-sized f (whole_of rest m) on.places this;
        }

-- ---- any replay
module _ (f : Form) (w : Show) (p : Replay) (records old : List ℕ) (start : ℕ) (room : start + room_for (length records) ≤ length old) where
  pub run-decided : is_decided p.trace.state ≡ true → Ran f w p records old start (record { replay = p; at = start }) old
  run-decided e = record {
    text = [];
    leads = sym (decided-stays f w (cut_of (size_of f) records) p [] e);
    put = put-nothing old start (omega arith);
    most = omega arith;
  }

  pub run-follows : (x : Lined) (new : List ℕ) → is_decided p.trace.state ≡ false
      → Ran f w (replay_of (trace.good_of p.trace.session) p.counted) records old start x new → Ran f w p records old start x new
  run-follows x new e r = subst (λ (t : Trace). Ran f w (replay_of t p.counted) records old start x new) (ap (λ (z : State). record { session = p.trace.session; state = z }) (sym (good-state p.trace.state e))) r
