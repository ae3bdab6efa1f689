-- Two sessions that are opened alike, with equal tracks and with buffers that agree on the bytes of the frame under way, stay so and answer alike, whatever calls both are given.
use Rattle.std.specs.Prelude.{Ok}
use Prim.Native.Nat.{ℕ, ◌-◌, ◌≤◌}
use mathlib.Core.Path.{◌≡◌, refl, sym, ap, subst, ◌∙◌}
use mathlib.Core.Bool.{Bool, true, false}
use mathlib.Core.List.{List, [], ◌∷◌}
use native.Mathlib.Omega.{arith}
use lib.ListN.{length, take, drop, length-drop}
use lib.Seq.{paste, paste-zero}
use Rattle.sizes.specs.declared.Opening.{Opening}
use Rattle.session_rules.specs.declared.Reading.{Reading}
use Rattle.session_rules.specs.declared.Reading.TheVariants.{Idle, Unreadable, Readable}
use Rattle.session_rules.specs.Transfer.{reading_of}
use Rattle.session_rules.specs.declared.Phase.{Phase}
use Rattle.session_rules.specs.declared.Phase.TheVariants.{Fresh, Under, Past}
use Rattle.session_rules.specs.declared.Track.{Track}
use Rattle.session_rules.specs.declared.Turn.{Turn}
use Rattle.session_rules.specs.Turns.{turn_of, hands_of, out_of, out_by, spoilt_by, spoilt_of, closed_by, closed_of}
use Rattle.session_rules.specs.Session.{lost_by, lost_of, close_by, close_of}
use Rattle.session_rules.specs.Call.{Ask}
use Rattle.session_rules.specs.Calls.{Offer, refusal, offer_with}
use Rattle.books.proofs.Sound.{Fit}
use Rattle.books.specs.Alike.{OpenedAlike, At, onward, NoneRefused, Said, said_of, out_length, fill_of, way_of, hears, heard, Same}
use Rattle.books.proofs.Openings.{alike_moved, reads-alike, hands-alike, turn-alike}
use Rattle.books.proofs.Ways.{Leaves, turn-leaves, out-bytes}
use Rattle.books.proofs.Goes.{Fine, fine, hands_in, turn_for, data_for, track_by, outcome_by, pasted_by, Goes, goes}

abbrev way_at : Track → List ℕ → List ℕ
way_at T B = take (fill_of T.phase) B

abbrev handed_at : Said → List ℕ → List ℕ
handed_at x B = take (out_length x) B

-- ---- a transfer, on two buffers
record Leave (c : Bool) (X : Turn) (d : List ℕ) (T : Track) (A B : List ℕ) : Type 0 where
  pub way : way_at (track_by c X T) (pasted_by c X d A) ≡ way_at (track_by c X T) (pasted_by c X d B)
  pub handed : handed_at (Said.took (outcome_by c X T)) (pasted_by c X d A) ≡ handed_at (Said.took (outcome_by c X T)) (pasted_by c X d B)

out-fill : (ph : Phase) (gap : Bool) (A B : List ℕ) → take (fill_of (out_by ph gap).track.phase) A ≡ take (fill_of (out_by ph gap).track.phase) B
out-fill Fresh gap A B = refl
out-fill (Under r) gap A B = refl
out-fill (Past f) gap A B = refl

spoilt-fill : (ph : Phase) → fill_of (spoilt_by ph) ≡ fill_of ph
spoilt-fill Fresh = refl
spoilt-fill (Under r) = refl
spoilt-fill (Past f) = refl

module _ (o : Opening) (T : Track) (t A B : List ℕ) (fit : Fit o.frame T.phase) (room-a : o.frame ≤ length A) (room-b : o.frame ≤ length B) (same : way_at T A ≡ way_at T B) where
  unpasted : (at : ℕ) (k : ℕ) → take k A ≡ take k B → take k (paste A at [] 0) ≡ take k (paste B at [] 0)
  unpasted at k e = ap (take k) (sym (paste-zero A at [])) ∙ e ∙ ap (take k) (paste-zero B at [])

  leave : (R : Reading) → Leave (hands_in R o T) (turn_for R o T t) (data_for R t) T A B
  unfolding hands_of turn_of out_of spoilt_of
  leave Idle = record { way = unpasted 0 (fill_of T.phase) same; handed = refl }
  leave (Unreadable k) = record { way = unpasted 0 (fill_of (spoilt_by T.phase)) (ap (λ (n : ℕ). take n A) (spoilt-fill T.phase) ∙ same ∙ ap (λ (n : ℕ). take n B) (sym (spoilt-fill T.phase))); handed = refl }
  leave (Readable h) = go (hands_of o T h) refl
    where
      enough : length t - h.len ≤ length (drop h.len t)
      enough = let e : length (drop h.len t) ≡ length t - h.len = length-drop h.len t in omega arith

      l : Leaves (turn_of o T h (length t - h.len)) (drop h.len t) A B
      l = turn-leaves o h (length t - h.len) (drop h.len t) A B enough room-a room-b T.phase T.gap fit same

      go : (c : Bool) → hands_of o T h ≡ c → Leave c (turn_of o T h (length t - h.len)) (drop h.len t) T A B
      go true e = record { way = out-fill T.phase T.gap A B; handed = out-bytes o h T.phase T.gap A B fit e same }
      go false e = record { way = l.way; handed = l.handed }

-- ---- opened alike
module _ (o p : Opening) (a : OpenedAlike o p) where
  hand-alike : (R : Reading) (T : Track) → hands_in R o T ≡ hands_in R p T
  hand-alike Idle T = refl
  hand-alike (Unreadable k) T = refl
  hand-alike (Readable h) T = hands-alike o p a T h

  turns-alike : (R : Reading) (T : Track) (t : List ℕ) → turn_for R o T t ≡ turn_for R p T t
  turns-alike Idle T t = refl
  turns-alike (Unreadable k) T t = refl
  turns-alike (Readable h) T t = turn-alike o p a T h (length t - h.len)

-- ---- one call more
pub record Alongside (x y : At) (k : Ask) : Type 0 where
  pub hears : hears x k ≡ hears y k
  pub stays : Same (onward x k) (onward y k)

transfer-alongside : (x y : At) (t : List ℕ) → Same x y → refusal x.session (Offer.take x.buffer t) ≡ 0 → refusal y.session (Offer.take y.buffer t) ≡ 0 → Alongside x y (Ask.transfer t)
transfer-alongside x y t s p q =
    record {
      hears = λ i. record { said = said i; handed = handed i; way = way i };
      stays = record { opening = alike_moved o p₀ (onward x (Ask.transfer t)).session.rest.opening (onward y (Ask.transfer t)).session.rest.opening gx.opening gy.opening s.opening; track = gx.track ∙ turned ∙ sym gy.track; way = way };
    }
  where
    o : Opening
    o = x.session.rest.opening

    T : Track
    T = x.session.rest.track

    U : Track
    U = y.session.rest.track

    R : Reading
    R = reading_of o t

    c : Bool
    c = hands_in R o T

    X : Turn
    X = turn_for R o T t

    d : List ℕ
    d = data_for R t

    gx : Goes x t c X d
    gx = goes x t p

    p₀ : Opening
    p₀ = y.session.rest.opening

    gy : Goes y t c X d
    gy = subst (λ (Z : Track). Goes y t (hands_in R o Z) (turn_for R o Z t) d) (sym s.track)
        (subst (λ (X : Turn). Goes y t (hands_in R o U) X d) (sym (turns-alike o p₀ s.opening R U t))
        (subst (λ (b : Bool). Goes y t b (turn_for R p₀ U t) d) (sym (hand-alike o p₀ s.opening R U))
        (subst (λ (r : Reading). Goes y t (hands_in r p₀ U) (turn_for r p₀ U t) (data_for r t)) (sym (reads-alike o p₀ s.opening t)) (goes y t q))))

    fx : Fine x.session x.buffer
    fx = fine x.session x.buffer t p

    fy : Fine y.session y.buffer
    fy = fine y.session y.buffer t q

    room-y : o.frame ≤ length y.buffer
    room-y = subst (λ (n : ℕ). n ≤ length y.buffer) (sym s.opening.frame) fy.room

    agree : way_at T x.buffer ≡ way_at T y.buffer
    agree = s.way ∙ ap (λ (Z : Track). way_at Z y.buffer) (sym s.track)

    l : Leave c X d T x.buffer y.buffer
    l = leave o T t x.buffer y.buffer fx.fit fx.room room-y agree R

    turned : track_by c X T ≡ track_by c X U
    turned = ap (track_by c X) s.track

    told : Said.took (outcome_by c X T) ≡ Said.took (outcome_by c X U)
    told = ap (λ (Z : Track). Said.took (outcome_by c X Z)) s.track

    said : said_of x (Ask.transfer t) ≡ said_of y (Ask.transfer t)
    said = gx.said ∙ told ∙ sym gy.said

    way : way_of (onward x (Ask.transfer t)) ≡ way_of (onward y (Ask.transfer t))
    way = (λ i. way_at (gx.track i) (gx.buffer i)) ∙ l.way ∙ ap (λ (Z : Track). way_at Z (pasted_by c X d y.buffer)) turned ∙ (λ i. way_at (sym gy.track i) (sym gy.buffer i))

    handed : handed_at (said_of x (Ask.transfer t)) (onward x (Ask.transfer t)).buffer ≡ handed_at (said_of y (Ask.transfer t)) (onward y (Ask.transfer t)).buffer
    handed = (λ i. handed_at (gx.said i) (gx.buffer i)) ∙ l.handed ∙ ap (λ (v : Said). handed_at v (pasted_by c X d y.buffer)) told ∙ (λ i. handed_at (sym gy.said i) (sym gy.buffer i))

-- a lost report, and close
lost-track : (x : At) → refusal x.session Offer.lost ≡ 0 → (onward x Ask.lost).session.rest.track ≡ spoilt_of x.session.rest.track
unfolding lost_of
lost-track x e = ap (λ (k : ℕ). (lost_by k x.session).session.rest.track) e

lost-opening : (x : At) → refusal x.session Offer.lost ≡ 0 → (onward x Ask.lost).session.rest.opening ≡ x.session.rest.opening
unfolding lost_of
lost-opening x e = ap (λ (k : ℕ). (lost_by k x.session).session.rest.opening) e

lost-said : (x : At) → refusal x.session Offer.lost ≡ 0 → said_of x Ask.lost ≡ Said.noted (Ok tt)
unfolding lost_of
lost-said x e = ap (λ (k : ℕ). Said.noted (lost_by k x.session).report) e

close-track : (x : At) → refusal x.session Offer.close ≡ 0 → (onward x Ask.close).session.rest.track ≡ (closed_of x.session.rest.track).track
unfolding close_of
close-track x e = ap (λ (k : ℕ). (close_by k x.session).session.rest.track) e

close-opening : (x : At) → refusal x.session Offer.close ≡ 0 → (onward x Ask.close).session.rest.opening ≡ x.session.rest.opening
unfolding close_of
close-opening x e = ap (λ (k : ℕ). (close_by k x.session).session.rest.opening) e

close-said : (x : At) → refusal x.session Offer.close ≡ 0 → said_of x Ask.close ≡ Said.shut (Ok (closed_of x.session.rest.track).ended)
unfolding close_of
close-said x e = ap (λ (k : ℕ). Said.shut (close_by k x.session).closing) e

spoilt-way : (T : Track) (B : List ℕ) → way_at (spoilt_of T) B ≡ way_at T B
unfolding spoilt_of
spoilt-way T B = ap (λ (n : ℕ). take n B) (spoilt-fill T.phase)

closed-way : (T : Track) (B : List ℕ) → way_at (closed_of T).track B ≡ []
unfolding closed_of
closed-way T B = go T.phase
  where
    go : (ph : Phase) → take (fill_of (closed_by ph T.gap).track.phase) B ≡ []
    go Fresh = refl
    go (Under r) = refl
    go (Past f) = refl

-- every call keeps them equal, and is answered alike
pub alongside : (x y : At) (k : Ask) → Same x y → refusal x.session (offer_with x.buffer k) ≡ 0 → refusal y.session (offer_with y.buffer k) ≡ 0 → Alongside x y k
alongside x y (Ask.transfer t) s p q = transfer-alongside x y t s p q
alongside x y Ask.lost s p q =
    record { hears = λ i. record { said = (lost-said x p ∙ sym (lost-said y q)) i; handed = handed i; way = way i }; stays = record { opening = moved Ask.lost (lost-opening x p) (lost-opening y q); track = lost-track x p ∙ ap spoilt_of s.track ∙ sym (lost-track y q); way = way } }
  where
    moved : (k : Ask) → (onward x k).session.rest.opening ≡ x.session.rest.opening → (onward y k).session.rest.opening ≡ y.session.rest.opening
        → OpenedAlike (onward x k).session.rest.opening (onward y k).session.rest.opening
    moved k a b = alike_moved x.session.rest.opening y.session.rest.opening (onward x k).session.rest.opening (onward y k).session.rest.opening a b s.opening

    way : way_of (onward x Ask.lost) ≡ way_of (onward y Ask.lost)
    way = ap (λ (Z : Track). way_at Z x.buffer) (lost-track x p) ∙ spoilt-way x.session.rest.track x.buffer ∙ s.way ∙ sym (spoilt-way y.session.rest.track y.buffer) ∙ ap (λ (Z : Track). way_at Z y.buffer) (sym (lost-track y q))

    handed : handed_at (said_of x Ask.lost) x.buffer ≡ handed_at (said_of y Ask.lost) y.buffer
    handed = ap (λ (v : Said). handed_at v x.buffer) (lost-said x p) ∙ ap (λ (v : Said). handed_at v y.buffer) (sym (lost-said y q))
alongside x y Ask.close s p q =
    record { hears = λ i. record { said = said i; handed = handed i; way = way i }; stays = record { opening = moved Ask.close (close-opening x p) (close-opening y q); track = close-track x p ∙ ap (λ (Z : Track). (closed_of Z).track) s.track ∙ sym (close-track y q); way = way } }
  where
    moved : (k : Ask) → (onward x k).session.rest.opening ≡ x.session.rest.opening → (onward y k).session.rest.opening ≡ y.session.rest.opening
        → OpenedAlike (onward x k).session.rest.opening (onward y k).session.rest.opening
    moved k a b = alike_moved x.session.rest.opening y.session.rest.opening (onward x k).session.rest.opening (onward y k).session.rest.opening a b s.opening

    way : way_of (onward x Ask.close) ≡ way_of (onward y Ask.close)
    way = ap (λ (Z : Track). way_at Z x.buffer) (close-track x p) ∙ closed-way x.session.rest.track x.buffer ∙ sym (closed-way y.session.rest.track y.buffer) ∙ ap (λ (Z : Track). way_at Z y.buffer) (sym (close-track y q))

    said : said_of x Ask.close ≡ said_of y Ask.close
    said = close-said x p ∙ ap (λ (Z : Track). Said.shut (Ok (closed_of Z).ended)) s.track ∙ sym (close-said y q)

    handed : handed_at (said_of x Ask.close) x.buffer ≡ handed_at (said_of y Ask.close) y.buffer
    handed = ap (λ (v : Said). handed_at v x.buffer) (close-said x p) ∙ ap (λ (v : Said). handed_at v y.buffer) (sym (close-said y q))

-- ANY CALLS ALIKE
pub heard-alike : (x y : At) (ks : List Ask) → Same x y → NoneRefused x ks → NoneRefused y ks → heard x ks ≡ heard y ks
heard-alike x y [] s p q = refl
heard-alike x y (k ∷ ks) s p q =
    let z : Alongside x y k = alongside x y k s p.0 q.0 in
    λ i. z.hears i ∷ heard-alike (onward x k) (onward y k) ks z.stays p.1 q.1 i
