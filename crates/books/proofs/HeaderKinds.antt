-- The old kind of header reports no layer; the VP8 kind has no stills and no mixed, and none of its frames is untimed.
use Rattle.std.specs.Prelude.{None, Some}
use Rattle.session_rules.specs.Options.{Ended, Fault, Layer, Stamp}
use Prim.Native.Nat.{ℕ, zero, suc}
use mathlib.Core.Path.{◌≡◌, refl, sym, ◌∙◌, ap, subst}
use mathlib.Core.Bool.{Bool, true, false, cond, ◌&&◌}
use mathlib.Core.List.{List, [], ◌∷◌, map}
use native.Mathlib.Omega.{arith}
use lib.ListN.{length}
use lib.Dec.{eqb}
use Rattle.sizes.specs.declared.Opening.{Opening}
use Rattle.sizes.specs.declared.HeaderKind.TheVariants.{Old, Vp8}
use Rattle.session_rules.specs.declared.Header.{Header}
use Rattle.session_rules.proofs.OldKind.{no-layer}
use Rattle.session_rules.proofs.Vp8.{no-still, its-stamp}
use Rattle.session_rules.specs.declared.Reason.TheVariants.{Empty}
use Rattle.session_rules.specs.declared.HandOut.{HandOut}
use Rattle.session_rules.specs.declared.Ledger.{Ledger}
use Rattle.session_rules.specs.Entry.{Entry}
use Rattle.session_rules.specs.Call.{Call}
use Rattle.session_rules.specs.Calls.{Offer, refusal, after, taken}
use Rattle.session_rules.specs.Session.{fresh, take_of, close_by, close_of}
use Rattle.books.specs.Rule.{events, Seen, frame_of, complete, data_of, ◌or_stamp◌, first_stamp, ◌then_layer◌, last_layer, still_of, fault, handed_out, verdict, loose, entry_of, frames_by, total, no_stamp, untimed}
use Rattle.books.specs.Answer.{last_run, frame_entry, reason_in, fate_in}
use Rattle.books.specs.Demands.{Right, EachHeader, EachEntry, FilmHeader, Film, NoStill}
use Rattle.books.specs.HeaderKinds.{NoLayer, NoLayers, Timed, AllTimed, FateNoLayer, ReportsNone, FateNoStill, EndedNotMixed, ClosesNoStill, AnswersNoStill}
use Rattle.books.proofs.Posts.{total-append}
use Rattle.books.proofs.Accounts.{loose-timed}
use Rattle.books.proofs.ByList.{close-answers}
use Rattle.books.proofs.Each.{EachSeen, last_frame, read-each, frames-each, close-each, takes-each}
use Rattle.books.proofs.Stills.{still-clear, judged-film}

-- ---- the old kind: no layer
abbrev Layerless : Header → Type 0
Layerless h = h.layer ≡ None

layer-none : (r : List Seen) → EachSeen Layerless r → last_layer r ≡ None
layer-none [] c = refl
layer-none (t ∷ ts) c = ap (t.header.layer then_layer◌) (layer-none ts c.1) ∙ c.0

verdict-none : (w c : Bool) (q : Fault) (s : Stamp) (y : Layer) (b : Bool) (n : ℕ) → y ≡ None → NoLayer (verdict w c q s y b n)
verdict-none w true (Some k) s y b n e = tt
verdict-none w true None s y b n e = go (eqb n 0) b
  where
    go : (c b : Bool) → NoLayer (cond c (Entry.Dropped Empty n) (handed_out b (record { len = n; stamp = s; layer = y })))
    go true b = tt
    go false true = e
    go false false = e
verdict-none true false q s y b n e = tt
verdict-none false false (Some k) s y b n e = tt
verdict-none false false None s y b n e = tt

fate-none : (e : Entry) → NoLayer e → FateNoLayer (fate_in e)
fate-none (Entry.Delivered d) q = q
fate-none (Entry.Still d) q = q
fate-none (Entry.Dropped w n) q = tt
fate-none (Entry.UnderWay n) q = tt
fate-none (Entry.Stray n) q = tt
fate-none (Entry.Unreadable n) q = tt
fate-none (Entry.Headers n) q = tt
fate-none Entry.Lost q = tt
fate-none Entry.Idle q = tt

module _ (o : Opening) (old : o.kind ≡ Old) where
  layerless : (cs : List Call) → EachHeader Layerless (events o cs)
  layerless cs = read-each Layerless o (λ t h e. no-layer o t h old e) cs

  judged-none : (way c : Bool) (f : List Seen) → EachSeen Layerless f → NoLayer (verdict way c (fault o f) (first_stamp f) (last_layer f) (still_of f) (length (data_of f)))
  judged-none way c f k = verdict-none way c (fault o f) (first_stamp f) (last_layer f) (still_of f) (length (data_of f)) (layer-none f k)

  pub no-layers : (cs : List Call) → NoLayers o cs
  no-layers cs = frames-each Layerless o NoLayer judged-none (λ n. tt) cs (layerless cs)

  frame-none : (p l : Bool) (cs : List Call) → NoLayer (frame_entry o p l (last_run o cs))
  frame-none p l cs = judged-none (p && l) (complete o l (frame_of o (last_run o cs))) (frame_of o (last_run o cs)) (last_frame Layerless o cs (layerless cs))

  pub reports-none : (xs : List Offer) (b t : List ℕ) → ReportsNone (take_of (after (fresh o) xs) (length b) t).outcome
  reports-none =
      takes-each o (λ (e : Ended). Unit {0}) NoLayer tt (λ e q. tt) frame-none (λ (f : HandOut). f.delivery.layer ≡ None) FateNoLayer
      (λ cs. layer-none (frame_of o (last_run o cs)) (last_frame Layerless o cs (layerless cs))) fate-none tt tt (λ k. tt)

-- ---- the VP8 kind: always a stamp
abbrev Stamped : Header → Type 0
Stamped h = no_stamp h.stamp ≡ 0

first-stamped : (s r : Stamp) → no_stamp s ≡ 0 → no_stamp (s or_stamp r) ≡ 0
first-stamped None r e = absurd (omega arith)
first-stamped (Some x) r e = refl

verdict-timed : (w c : Bool) (q : Fault) (s : Stamp) (y : Layer) (b : Bool) (n : ℕ) → no_stamp s ≡ 0 → Timed (verdict w c q s y b n)
verdict-timed w true (Some k) s y b n e = refl
verdict-timed w true None s y b n e = go (eqb n 0) b
  where
    go : (c b : Bool) → Timed (cond c (Entry.Dropped Empty n) (handed_out b (record { len = n; stamp = s; layer = y })))
    go true b = refl
    go false true = refl
    go false false = e
verdict-timed true false q s y b n e = refl
verdict-timed false false (Some k) s y b n e = refl
verdict-timed false false None s y b n e = refl

-- a frame of no transfer has no data, and is not delivered
empty-timed : (o : Opening) (way c : Bool) → Timed (verdict way c (fault o []) None None false 0)
empty-timed o true true = refl
empty-timed o false true = refl
empty-timed o true false = refl
empty-timed o false false = refl

judged-timed : (o : Opening) (way c : Bool) (f : List Seen) → EachSeen Stamped f → Timed (verdict way c (fault o f) (first_stamp f) (last_layer f) (still_of f) (length (data_of f)))
judged-timed o way c [] k = empty-timed o way c
judged-timed o way c (t ∷ ts) k =
    let f : List Seen = t ∷ ts in
    verdict-timed way c (fault o f) (first_stamp f) (last_layer f) (still_of f) (length (data_of f)) (first-stamped t.header.stamp (first_stamp ts) k.0)

none-untimed : (es : List Entry) → EachEntry Timed es → total untimed es ≡ 0
none-untimed [] f = refl
none-untimed (e ∷ es) f = omega (arith, f.0, none-untimed es f.1)

pub all-timed : (o : Opening) → o.kind ≡ Vp8 → (cs : List Call) (l : Ledger) → Right o cs l → AllTimed o cs l
all-timed o vp8 cs l r =
    let f : EachEntry Timed (map entry_of (frames_by o cs)) =
    frames-each Stamped o Timed (judged-timed o) (λ n. refl) cs (read-each Stamped o (λ t h e. ap no_stamp (its-stamp o t h vp8 e)) cs) in
    let n = total-append untimed (map entry_of (frames_by o cs)) (loose (events o cs)) in
    record { frames = f; number = r.plain ∙ omega (arith, none-untimed (map entry_of (frames_by o cs)) f, loose-timed (events o cs)) }

-- ---- the VP8 kind: no still bit
fate-film : (e : Entry) → NoStill e → FateNoStill (fate_in e)
fate-film (Entry.Still d) q = q
fate-film (Entry.Dropped w n) q = q
fate-film (Entry.Delivered d) q = tt
fate-film (Entry.UnderWay n) q = tt
fate-film (Entry.Stray n) q = tt
fate-film (Entry.Unreadable n) q = tt
fate-film (Entry.Headers n) q = tt
fate-film Entry.Lost q = tt
fate-film Entry.Idle q = tt

ended-film : (e : Entry) → NoStill e → EndedNotMixed (reason_in e)
ended-film (Entry.Still d) q = tt
ended-film (Entry.Dropped w n) q = q
ended-film (Entry.Delivered d) q = tt
ended-film (Entry.UnderWay n) q = tt
ended-film (Entry.Stray n) q = tt
ended-film (Entry.Unreadable n) q = tt
ended-film (Entry.Headers n) q = tt
ended-film Entry.Lost q = tt
ended-film Entry.Idle q = tt

module _ (o : Opening) (vp8 : o.kind ≡ Vp8) where
  pub all-film : (cs : List Call) → Film (events o cs)
  all-film cs = read-each FilmHeader o (λ t h e. no-still o t h vp8 e) cs

  frame-film : (p l : Bool) (cs : List Call) → NoStill (frame_entry o p l (last_run o cs))
  frame-film p l cs = judged-film o (p && l) (complete o l (frame_of o (last_run o cs))) (frame_of o (last_run o cs)) (last_frame FilmHeader o cs (all-film cs))

  pub answers-no-still : (xs : List Offer) (b t : List ℕ) → AnswersNoStill (take_of (after (fresh o) xs) (length b) t).outcome
  answers-no-still =
      takes-each o EndedNotMixed NoStill tt ended-film frame-film (λ (f : HandOut). f.still ≡ false) FateNoStill
      (λ cs. still-clear (frame_of o (last_run o cs)) (last_frame FilmHeader o cs (all-film cs))) fate-film tt tt (λ k. tt)

  pub closes-no-still : (xs : List Offer) → ClosesNoStill (close_of (after (fresh o) xs)).closing
  unfolding close_of
  closes-no-still xs = go (refusal (after (fresh o) xs) Offer.close) refl
    where
      cs : List Call
      cs = taken (fresh o) xs

      go : (n : ℕ) → refusal (after (fresh o) xs) Offer.close ≡ n → ClosesNoStill (close_by n (after (fresh o) xs)).closing
      go zero e =
          subst ClosesNoStill (sym (close-answers o xs e) ∙ ap (λ (n : ℕ). (close_by n (after (fresh o) xs)).closing) e)
          (close-each o EndedNotMixed NoStill tt ended-film frame-film cs)
      go (suc k) e = tt
