-- Once a readable transfer is taken that has another FID than the last readable one, with nothing unreadable or lost between, a session is where a fresh one would be, but for its ledger and its
-- transfers taken.
use Rattle.std.specs.Prelude.{None}
use Prim.Native.Nat.{ℕ, ◌-◌, ◌≤◌}
use mathlib.Core.Path.{◌≡◌, refl, sym, ap, subst, ◌∙◌}
use mathlib.Core.Bool.{Bool, true, false}
use mathlib.Core.List.{List, ◌++◌}
use native.Mathlib.Omega.{arith}
use lib.ListN.{length, take, drop, length-drop}
use lib.Seq.{paste}
use Rattle.sizes.specs.declared.Opening.{Opening}
use Rattle.session_rules.specs.declared.Header.{Header}
use Rattle.session_rules.specs.declared.Reading.{Reading}
use Rattle.session_rules.specs.declared.Reading.TheVariants.{Readable}
use Rattle.session_rules.specs.Transfer.{reading_of}
use Rattle.session_rules.specs.declared.Phase.{Phase}
use Rattle.session_rules.specs.declared.Phase.TheVariants.{Fresh, Under, Past}
use Rattle.session_rules.specs.declared.Track.{Track}
use Rattle.session_rules.specs.declared.Turn.{Turn}
use Rattle.session_rules.specs.declared.Answer.{Answer}
use Rattle.session_rules.specs.declared.HandOut.{HandOut}
use Rattle.session_rules.specs.Turns.{turn_by, turn_of, hands_by, hands_of, out_by, out_of}
use Rattle.session_rules.specs.declared.Session.{Session}
use Rattle.session_rules.specs.declared.Outcome.{Outcome}
use Rattle.session_rules.specs.Call.{Ask}
use Rattle.session_rules.specs.Calls.{Offer, refusal}
use Rattle.books.specs.LastReadable.{LastFid, Other}
use Rattle.books.specs.Alike.{OpenedAlike, At, onward, NoneRefused, Said, said_of, fate_length, fill_of, way_of, Same}
use Rattle.books.proofs.Openings.{alike_moved, reads-alike, turn-alike}
use Rattle.books.proofs.Ways.{Leaves, begun-leaves}
use Rattle.books.proofs.Goes.{fine, hands_in, turn_for, data_for, Goes, goes}
use Rattle.books.proofs.Alongside.{heard-alike}
use Rattle.books.proofs.Begins.{phase_fid, Begun, turn-begun}
use Rattle.behind.specs.Behind.{ready_by, ready, begun, again_by, calls, Behind}

-- the last readable transfer, if there is one, has another FID than g, and nothing unreadable or lost has come since
pub record Unlike (g : Bool) (s : Session) : Type 0 where
  pub other : Other g (phase_fid s.rest.track.phase)
  pub clear : s.rest.track.gap ≡ false

-- after a hand-out the same holds, and nothing more is handed out
out-fid : (ph : Phase) (gap : Bool) → phase_fid (out_by ph gap).track.phase ≡ phase_fid ph
out-fid Fresh gap = refl
out-fid (Under r) gap = refl
out-fid (Past f) gap = refl

out-gap : (ph : Phase) (gap : Bool) → (out_by ph gap).track.gap ≡ gap
out-gap Fresh gap = refl
out-gap (Under r) gap = refl
out-gap (Past f) gap = refl

out-hands : (o : Opening) (h : Header) (ph : Phase) (gap : Bool) → hands_by (out_by ph gap).track.phase o h ≡ false
out-hands o h Fresh gap = refl
out-hands o h (Under r) gap = refl
out-hands o h (Past f) gap = refl

-- the turn that begins a frame: a fresh session's
abbrev opens : Opening → Header → ℕ → Turn
opens o h n = turn_by Fresh o false h n

module _ (t : List ℕ) (h : Header) where
  abbrev n : ℕ
  n = length t - h.len

  abbrev a : Ask
  a = Ask.transfer t

  abbrev opening_of : At → Opening
  opening_of x = x.session.rest.opening

  abbrev track_of : At → Track
  track_of x = x.session.rest.track

  -- where the session is once the transfer is taken, and what was said of it
  pub record First (x y : At) (v : Said) : Type 0 where
    pub opening : opening_of y ≡ opening_of x
    pub track : track_of y ≡ (opens (opening_of x) h n).track
    pub buffer : y.buffer ≡ paste x.buffer 0 (drop h.len t) (opens (opening_of x) h n).len
    pub answer : Answer
    pub said : v ≡ Said.took (Outcome.Taken answer)
    pub fate : answer.fate ≡ (opens (opening_of x) h n).answer.fate
    pub room : (opening_of x).frame ≤ length x.buffer

  went : (x : At) → reading_of (opening_of x) t ≡ Readable h → refusal x.session (Offer.take x.buffer t) ≡ 0
      → Goes x t (hands_of (opening_of x) (track_of x) h) (turn_of (opening_of x) (track_of x) h n) (drop h.len t)
  went x reads p = subst (λ (r : Reading). Goes x t (hands_in r (opening_of x) (track_of x)) (turn_for r (opening_of x) (track_of x) t) (data_for r t)) reads (goes x t p)

  turn-new : (x : At) → Unlike h.fid x.session → Begun (turn_of (opening_of x) (track_of x) h n) (opens (opening_of x) h n)
  unfolding turn_of
  turn-new x u =
      subst (λ (g : Bool). Begun (turn_by (track_of x).phase (opening_of x) g h n) (opens (opening_of x) h n)) (sym u.clear)
      (turn-begun (opening_of x) h n (track_of x).phase u.other)

  direct : (x : At) → reading_of (opening_of x) t ≡ Readable h → Unlike h.fid x.session → refusal x.session (Offer.take x.buffer t) ≡ 0
      → hands_of (opening_of x) (track_of x) h ≡ false → First x (onward x a) (said_of x a)
  direct x reads u p c =
      let X : Turn = turn_of (opening_of x) (track_of x) h n in
      let w : Begun X (opens (opening_of x) h n) = turn-new x u in
      let z : Goes x t false X (drop h.len t) = subst (λ (b : Bool). Goes x t b X (drop h.len t)) c (went x reads p) in
      record {
        opening = z.opening;
        track = z.track ∙ w.track;
        buffer = z.buffer ∙ (λ i. paste x.buffer (w.at i) (drop h.len t) (w.len i));
        answer = X.answer;
        said = z.said;
        fate = w.fate;
        room = (fine x.session x.buffer t p).room;
      }

  again-refusal : (x : At) (v : Said) (y : HandOut) (ks : List Ask) → v ≡ Said.took (Outcome.Handed y) → NoneRefused (onward x a) (again_by v t ++ ks)
      → refusal (onward x a).session (Offer.take (onward x a).buffer t) ≡ 0
  again-refusal x v y ks e p = (subst (λ (u : Said). NoneRefused (onward x a) (again_by u t ++ ks)) e p).0

  pub first : (x : At) (ks : List Ask) → reading_of (opening_of x) t ≡ Readable h → Unlike h.fid x.session → NoneRefused x (calls x t ks)
      → First x (begun x t) (said_of (ready x t) a)
  unfolding hands_of out_of
  first x ks reads u p = go (hands_of (opening_of x) (track_of x) h) refl
    where
      T : Track
      T = track_of x

      x' : At
      x' = onward x a

      go : (c : Bool) → hands_of (opening_of x) T h ≡ c → First x (begun x t) (said_of (ready x t) a)
      go false e =
          let d : First x x' (said_of x a) = direct x reads u p.0 e in
          let is : ready x t ≡ x = ap (λ (v : Said). ready_by v x x') d.said in
          subst (λ (y : At). First x (onward y a) (said_of y a)) (sym is) d
      go true e =
          let X : Turn = turn_of (opening_of x) T h n in
          let z : Goes x t true X (drop h.len t) = subst (λ (b : Bool). Goes x t b X (drop h.len t)) e (went x reads p.0) in
          let q : refusal x'.session (Offer.take x'.buffer t) ≡ 0 = again-refusal x (said_of x a) (out_of T).frame ks z.said p.1 in
          let U : track_of x' ≡ (out_by T.phase T.gap).track = z.track in
          let still : Unlike h.fid x'.session = record {
            other = subst (λ (l : LastFid). Other h.fid l) (sym (ap (λ (W : Track). phase_fid W.phase) U ∙ out-fid T.phase T.gap)) u.other;
            clear = ap (λ (W : Track). W.gap) U ∙ out-gap T.phase T.gap ∙ u.clear;
          } in
          let none : hands_of (opening_of x') (track_of x') h ≡ false = ap (λ (W : Track). hands_of (opening_of x') W h) U ∙ out-hands (opening_of x') h T.phase T.gap in
          let d : First x' (onward x' a) (said_of x' a) = direct x' (ap (λ (o : Opening). reading_of o t) z.opening ∙ reads) still q none in
          let is : ready x t ≡ x' = ap (λ (v : Said). ready_by v x x') z.said in
          subst (λ (y : At). First x (onward y a) (said_of y a)) (sym is)
          (record {
            opening = d.opening ∙ z.opening;
            track = d.track ∙ ap (λ (o : Opening). (opens o h n).track) z.opening;
            buffer = d.buffer ∙ (λ i. paste (z.buffer i) 0 (drop h.len t) (opens (z.opening i) h n).len);
            answer = d.answer;
            said = d.said;
            fate = d.fate ∙ ap (λ (o : Opening). (opens o h n).answer.fate) z.opening;
            room = (fine x.session x.buffer t p.0).room;
          })

  pub none-begun : (x : At) (ks : List Ask) → NoneRefused x (calls x t ks) → NoneRefused (begun x t) ks
  none-begun x ks p = go (said_of x a) p.1
    where
      go : (v : Said) → NoneRefused (onward x a) (again_by v t ++ ks) → NoneRefused (onward (ready_by v x (onward x a)) a) ks
      go (Said.took (Outcome.Refused k)) p = p
      go (Said.took (Outcome.Taken y)) p = p
      go (Said.took (Outcome.Handed y)) p = p.1
      go (Said.noted y) p = p
      go (Said.shut y) p = p

  -- TWO SESSIONS
  module _ (x y : At) (ks : List Ask) (alike : OpenedAlike (opening_of x) (opening_of y)) (reads : reading_of (opening_of x) t ≡ Readable h)
      (u : Unlike h.fid x.session) (w : Unlike h.fid y.session) (p : NoneRefused x (calls x t ks)) (q : NoneRefused y (calls y t ks)) where
    mine : First x (begun x t) (said_of (ready x t) a)
    mine = first x ks reads u p

    yours : First y (begun y t) (said_of (ready y t) a)
    yours = first y ks (sym (reads-alike (opening_of x) (opening_of y) alike t) ∙ reads) w q

    turned : opens (opening_of x) h n ≡ opens (opening_of y) h n
    unfolding turn_of
    turned = turn-alike (opening_of x) (opening_of y) alike (record { phase = Fresh; gap = false }) h n

    leaves : Leaves (opens (opening_of x) h n) (drop h.len t) x.buffer y.buffer
    leaves =
        let k : n ≤ length (drop h.len t) = (let e : length (drop h.len t) ≡ n = length-drop h.len t in omega arith) in
        begun-leaves (opening_of x) h n (drop h.len t) x.buffer y.buffer k mine.room (subst (λ (m : ℕ). m ≤ length y.buffer) (sym alike.frame) yours.room) false None 0

    written : (begun y t).buffer ≡ paste y.buffer 0 (drop h.len t) (opens (opening_of x) h n).len
    written = yours.buffer ∙ ap (λ (X : Turn). paste y.buffer 0 (drop h.len t) X.len) (sym turned)

    tracks : track_of (begun x t) ≡ track_of (begun y t)
    tracks = mine.track ∙ ap (λ (X : Turn). X.track) turned ∙ sym yours.track

    way : way_of (begun x t) ≡ way_of (begun y t)
    way =
        (λ i. take (fill_of (mine.track i).phase) (mine.buffer i))
        ∙ leaves.way
        ∙ (λ i. take (fill_of (sym mine.track i).phase) (sym written i))
        ∙ ap (λ (T : Track). take (fill_of T.phase) (begun y t).buffer) tracks

    fates : mine.answer.fate ≡ yours.answer.fate
    fates = mine.fate ∙ ap (λ (X : Turn). X.answer.fate) turned ∙ sym yours.fate

    pub same : Same (begun x t) (begun y t)
    same =
        record {
          opening = alike_moved (opening_of x) (opening_of y) (opening_of (begun x t)) (opening_of (begun y t)) mine.opening yours.opening alike;
          track = tracks;
          way = way;
        }

    pub behind : Behind x y t ks
    behind =
        record {
          mine = mine.answer;
          yours = yours.answer;
          here = mine.said;
          there = yours.said;
          fate = fates;
          handed =
              (λ i. take (fate_length (mine.fate i)) (mine.buffer i))
              ∙ leaves.handed
              ∙ (λ i. take (fate_length (sym mine.fate i)) (sym written i))
              ∙ ap (λ f. take (fate_length f) (begun y t).buffer) fates;
          way = way;
          onwards = heard-alike (begun x t) (begun y t) ks same (none-begun x ks p) (none-begun y ks q);
        }
