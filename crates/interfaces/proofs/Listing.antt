-- Gathering the streaming interfaces: what the loop has at each turn.
use Prim.Native.Nat.{ℕ, ◌+◌, ◌≤◌, ◌<◌}
use mathlib.Core.Path.{◌≡◌, refl, sym, ◌∙◌}
use mathlib.Core.List.{List, [], ◌∷◌, ◌++◌, map, map-append, append-nil}
use mathlib.Core.Bool.{true}
use lib.ListN.{length, take, set, replicate, length-append, length-map, length-take}
use lib.Seq.{append_snoc, take_at, take_all}
use native.Mathlib.Omega.{arith}
use Rattle.rules.specs.Pad.{pad}
use Rattle.rules.proofs.Padded.{pad-set}
use Rattle.configuration_rules.specs.Descriptors.{after_at, is_sought}
use Rattle.configuration_rules.specs.declared.Sought.TheVariants.{Listed}
use Rattle.interfaces.specs.Inner.{found, next_of, stream_at, listed_in, streams_of}
use Rattle.interfaces.specs.Limits.{interfaces_most, no_stream}
use Rattle.interfaces.specs.declared.Stream.{Stream}
use Rattle.interfaces.specs.declared.Streams.{Streams}
use Rattle.interfaces.proofs.Lines.{found-end, found_here, after_on, next-is}

pub record Listing (s : List ℕ) (streams : List Stream) (count at : ℕ) : Type 0 where
  pub seen : List ℕ
  pub rest : seen ++ found Listed s at ≡ listed_in s
  pub counted : count ≡ length seen
  pub few : length seen ≤ interfaces_most
  pub kept : streams ≡ pad interfaces_most no_stream (map (stream_at s) seen)
  pub within : at ≤ length s
  pub here : at < length s → is_sought Listed s at ≡ true

pub listing-starts : (s : List ℕ) (z : Stream) (r : ℕ) → z ≡ no_stream → r ≡ next_of Listed s 0 → Listing s (replicate 8 z) 0 r
listing-starts s z r e q =
    let n = next-is s Listed 0 (omega arith) in
    record { seen = []; rest = rw q n.same; counted = refl; few = omega arith; kept = rw e; within = rw q n.within; here = rw q n.here }

module _ (s : List ℕ) (t : List Stream) (count at : ℕ) (l : Listing s t count at) where
  pub listing-room : (count ≡ 8 → ⊥) → count < 8
  listing-room h = omega (arith, l.counted, l.few)

  pub listing_full : at < length s → count ≡ 8 → record { count = count; streams = t } ≡ streams_of s
  unfolding streams_of
  listing_full h e =
      let n : length l.seen ≡ 8 = sym l.counted ∙ e in
      let w : take interfaces_most (listed_in s) ≡ l.seen = rw (← l.rest) (take_at l.seen (found Listed s at) 8 n) in
      rw (w, l.counted, l.kept) (simp length-map)

  pub listing-done : length s ≤ at → record { count = count; streams = t } ≡ streams_of s
  unfolding streams_of
  listing-done h =
      let e : l.seen ≡ listed_in s = sym (append-nil l.seen) ∙ (rw (found-end s Listed at h) at l.rest) in
      let w : take interfaces_most (listed_in s) ≡ l.seen = rw (← e) (take_all interfaces_most l.seen l.few) in
      rw (w, l.counted, l.kept) (simp length-map)

  module _ (h : at < length s) (n : count ≡ 8 → ⊥) (v : Stream) (p : v ≡ stream_at s at) (j r : ℕ) (q : j ≡ after_at s at) (e : r ≡ next_of Listed s j) where
    pub listing-in : j ≤ length s
    listing-in = rw q (after_on s at h).1

    pub listing-more : Listing s (set t count v) (count + 1) r
    listing-more =
        let z = next-is s Listed j listing-in in
        let few : length (map (stream_at s) l.seen) < 8 = rw length-map (omega (arith, listing-room n, l.counted)) in
        record {
          seen = l.seen ++ (at ∷ []);
          rest =
              append_snoc l.seen at (found Listed s r)
              ∙ (rw (e, z.same, q, ← found_here s Listed at h (l.here h)) l.rest);
          counted = rw l.counted (simp length-append);
          few = simp length-append (omega (arith, listing-room n, l.counted));
          kept =
              rw (map-append, l.kept, p, l.counted, ← length-map l.seen (stream_at s))
              (pad-set interfaces_most no_stream (map (stream_at s) l.seen) (stream_at s at) few);
          within = rw e z.within;
          here = rw e z.here;
        }

-- there are at most 8 in the table
pub streams-few : (s : List ℕ) (t : Streams) → t ≡ streams_of s → t.count ≤ 8
unfolding streams_of
streams-few s t e = rw e (simp (length-map, length-take) (omega arith))
