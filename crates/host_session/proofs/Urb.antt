-- The packets of a URB, one law for each way through the code.
use Prim.Native.Nat.{ℕ, suc, ◌+◌, ◌-◌, ◌≤◌, ◌<◌}
use mathlib.Core.Path.{◌≡◌, refl, sym, ap, ◌∙◌}
use mathlib.Core.Bool.{Bool, true, false}
use mathlib.Core.List.{List}
use native.Mathlib.Omega.{arith}
use native.Mathlib.Nat.{add-sub_cancel_left}
use lib.ListN.{length, get_or, take, drop, length-drop, drop_of_length-le}
use lib.Seq.{drop-cons, drop-drop, drop-length}
use lib.Dec.{leb}
use borrow.Author.Tests.{eq-eqb, ne_eqb, lt-ltb, le-ltb, le-leb, lt-leb}
use Rattle.rules.specs.IfElse.{if_else}
use Rattle.session_rules.specs.Accounts.{number_count}
use Rattle.session_words.specs.declared.Told.{Told}
use Rattle.host_session.specs.declared.packets.Step.{Step}
use Rattle.host_session.specs.Calls.{Left, take_in, lost_in}
use Rattle.host_session.specs.Packets.{lost_left, packet_in, is_quiet, done_with, all_quiet, to_tell, packets_from, packets_in}
use Rattle.host_session.specs.Inner.{SoundIf, Steps, Next}

-- ---- what a packet tells
module _ (x : Told) where
  pub quiet-refused : (x.refused ≡ 0 → ⊥) → false ≡ is_quiet x
  unfolding is_quiet
  quiet-refused h = rw (ne_eqb x.refused 0 h)

  pub quiet-ended : x.refused ≡ 0 → (x.ended ≡ 0 → ⊥) → false ≡ is_quiet x
  unfolding is_quiet
  quiet-ended e h = rw (eq-eqb x.refused 0 e, ne_eqb x.ended 0 h)

  pub quiet-fate : x.refused ≡ 0 → x.ended ≡ 0 → leb x.fate 1 ≡ is_quiet x
  unfolding is_quiet
  quiet-fate e f = rw (eq-eqb x.refused 0 e, eq-eqb x.ended 0 f) refl

  pub done_refused : (x.refused ≡ 0 → ⊥) → 0 ≡ done_with x
  unfolding done_with if_else
  done_refused h = rw (ne_eqb x.refused 0 h)

  pub done-yes : x.refused ≡ 0 → x.flags < 4 → 1 ≡ done_with x
  unfolding done_with if_else
  done-yes e h = rw (eq-eqb x.refused 0 e, lt-ltb x.flags 4 h)

  pub done-no : x.refused ≡ 0 → 4 ≤ x.flags → 0 ≡ done_with x
  unfolding done_with if_else
  done-no e h = rw (eq-eqb x.refused 0 e, le-ltb x.flags 4 h)

-- ---- where the next one's bytes begin
module _ (bytes : List ℕ) (at stride : ℕ) (h : at ≤ length bytes) where
  pub next_past : length bytes - at < stride → Next bytes at stride (length bytes)
  next_past l =
      record {
        within = omega arith;
        left = drop-length bytes ∙ sym (drop-drop stride at bytes ∙ drop_of_length-le bytes {i = at + stride} (omega arith));
      }

  pub next-there : stride ≤ length bytes - at → Next bytes at stride (at + stride)
  next-there l = record { within = omega arith; left = sym (drop-drop stride at bytes) }

-- ---- one packet
module _ (stride n : ℕ) (bytes m w b : List ℕ) where
  pub over-stride : stride < n → packet_in stride n bytes m w b ≡ lost_left (lost_in m w) b
  unfolding packet_in
  over-stride h = rw (lt-leb n stride h) refl

  pub not_there : n ≤ stride → length bytes < n → packet_in stride n bytes m w b ≡ lost_left (lost_in m w) b
  unfolding packet_in
  not_there g h = rw (le-leb n stride g, lt-leb n (length bytes) h) refl

  pub there : n ≤ stride → n ≤ length bytes → packet_in stride n bytes m w b ≡ take_in m w b (take n bytes)
  unfolding packet_in
  there g h = rw (le-leb n stride g, le-leb n (length bytes) h) refl

-- from `at` on
module _ (stride n at : ℕ) (bytes m w b : List ℕ) (g : n ≤ stride) where
  pub not-there-at : length bytes - at < n → packet_in stride n (drop at bytes) m w b ≡ lost_left (lost_in m w) b
  not-there-at h = not_there stride n (drop at bytes) m w b g (rw length-drop h)

  pub there-at : n ≤ length bytes - at → packet_in stride n (drop at bytes) m w b ≡ take_in m w b (take (at + n - at) (drop at bytes))
  there-at h = there stride n (drop at bytes) m w b g (rw length-drop h) ∙ ap (λ (i : ℕ). take_in m w b (take i (drop at bytes))) (sym (add-sub_cancel_left at n))

-- ---- all of them
module _ (stride : ℕ) (lengths bytes m w b : List ℕ) (k : ℕ) where
  pub packets-end : length lengths ≤ k → packets_from (drop k lengths) stride bytes m w b k ≡ all_quiet m w b k
  packets-end h = rw (drop_of_length-le lengths h) refl

  -- the next packet, of so many bytes
  module _ (n : ℕ) (there : k < length lengths) (is : n ≡ get_or lengths k 0) (x : Left) (e : x ≡ packet_in stride n bytes m w b) where
    opened : packets_from (drop k lengths) stride bytes m w b k
        ≡ if_else (is_quiet x.told) (packets_from (drop (suc k) lengths) stride (drop stride bytes) x.numbers x.words x.buffer (k + 1)) (to_tell x k)
    opened = rw (drop-cons lengths k 0 there, e, is) refl

    pub packets-quiet : is_quiet x.told ≡ true →
        packets_from (drop k lengths) stride bytes m w b k ≡ packets_from (drop (k + 1) lengths) stride (drop stride bytes) x.numbers x.words x.buffer (k + 1)
    unfolding if_else
    packets-quiet q = opened ∙ rw q (ap (λ (i : ℕ). packets_from (drop i lengths) stride (drop stride bytes) x.numbers x.words x.buffer (k + 1)) (let z : suc k ≡ k + 1 = omega arith in z))

    pub packets-tell : is_quiet x.told ≡ false → packets_from (drop k lengths) stride bytes m w b k ≡ to_tell x k
    unfolding if_else
    packets-tell q = opened ∙ rw q refl

-- ---- how the loop stands: what is left to do gives the whole
pub record Under (m₀ w₀ b₀ bytes : List ℕ) (stride : ℕ) (lengths m w b : List ℕ) (known : Bool) (at k : ℕ) : Type 0 where
  pub within : at ≤ length bytes
  pub some : k ≤ length lengths
  pub places : length m ≡ number_count
  pub sound : SoundIf known m w
  pub room : length b ≡ length b₀
  pub same : packets_from (drop k lengths) stride (drop at bytes) m w b k ≡ packets_in m₀ w₀ b₀ bytes stride lengths

pub at-start : (m w b bytes : List ℕ) (stride : ℕ) (lengths : List ℕ) (known : Bool) → length m ≡ number_count → SoundIf known m w →
    Under m w b bytes stride lengths m w b known 0 0
unfolding packets_in
at-start m w b bytes stride lengths known e s = record { within = omega arith; some = omega arith; places = e; sound = s; room = refl; same = refl }

module _ (m₀ w₀ b₀ bytes : List ℕ) (stride : ℕ) (lengths m w b : List ℕ) (known : Bool) (at k : ℕ) (u : Under m₀ w₀ b₀ bytes stride lengths m w b known at k) where
  module _ (x : Step) (m' w' b' : List ℕ) (n : ℕ) (is : n ≡ get_or lengths k 0) (there : k < length lengths)
      (s : Steps x (packet_in stride n (drop at bytes) m w b) m' w' b') (long : length b' ≡ length b₀) where
    abbrev left : Left
    left = packet_in stride n (drop at bytes) m w b

    pub one_more : is_quiet x.told ≡ true → (r : ℕ) → Next bytes at stride r → Under m₀ w₀ b₀ bytes stride lengths m' w' b' x.known r (k + 1)
    one_more q r next =
        record {
          within = next.within;
          some = omega arith;
          places = s.places;
          sound = s.sound;
          room = long;
          same = rw (s.numbers, s.words, s.buffer, next.left) (sym (packets-quiet stride lengths (drop at bytes) m w b k n there is left refl (ap is_quiet (sym s.told) ∙ q)) ∙ u.same);
        }

    pub one-tells : is_quiet x.told ≡ false → packets_in m₀ w₀ b₀ bytes stride lengths ≡ to_tell left k
    one-tells q = sym u.same ∙ packets-tell stride lengths (drop at bytes) m w b k n there is left refl (ap is_quiet (sym s.told) ∙ q)

  pub at-end : length lengths ≤ k → packets_in m₀ w₀ b₀ bytes stride lengths ≡ all_quiet m w b k
  at-end h = sym u.same ∙ packets-end stride lengths (drop at bytes) m w b k h
