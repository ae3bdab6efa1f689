-- THE CLAIM of request Nine: any sequence of sent frames is delivered byte for byte, and no byte account but headers and delivered is nonzero.
use Prim.Native.Nat.{ℕ, ◌+◌, ◌≤◌}
use mathlib.Core.Path.{◌≡◌, refl, sym, ap, ◌∙◌}
use mathlib.Core.Bool.{false}
use mathlib.Core.List.{List, [], ◌∷◌, ◌++◌, map, append-nil}
use native.Mathlib.Omega.{arith}
use lib.ListN.{length}
use lib.Dec.{eqb}
use borrow.Author.Tests.{le-ltb, lt-leb, ne_eqb}
use Rattle.rules.specs.Numbered.{NoneOf}
use Rattle.rules.proofs.Rows.{or-first, or-second}
use Rattle.sizes.specs.declared.Opening.{Opening}
use Rattle.sizes.specs.Sizes.{frame_most, payload_most, frame_size_broken, sizes_broken}
use Rattle.sizes.proofs.Limits.{frame-sound, payload-sound}
use Rattle.session_rules.specs.declared.Delivery.{Delivery}
use Rattle.session_rules.specs.Entry.{Entry}
use Rattle.session_rules.specs.declared.Account.{Account}
use Rattle.session_rules.specs.Accounts.{place_of}
use Rattle.session_rules.specs.Call.{Call}
use Rattle.books.specs.Rule.{Seen, frames_by, entry_of, loose, entries, lost_line, idle_line, one_in, part_in, total, stamps, untimed, forward, back, between, no_stamp, stamp_list}
use Rattle.books.specs.Demands.{Right}
use Rattle.books.specs.Offers.{list_of}
use Rattle.books.specs.Alike.{Said}
use Rattle.books.proofs.Proved.{nothing-missing}
use Rattle.books.proofs.Posts.{total-append}
use Rattle.books.proofs.History.{stamps-append}
use Rattle.books.proofs.Accounts.{loose-stamped}
use Rattle.sender.specs.Header.{size_of}
use Rattle.sender.specs.Transfers.{Frame, sent_of}
use Rattle.sender.specs.Send.{payload_broken, frame_rows, AllFree}
use Rattle.sender.specs.Claim.{Sendable, AllSendable, Receives, offered, delivery_of, delivered, stamps_in, plain_in, ledger_in, Arrives}
use Rattle.sender.proofs.Frames.{seen_all, event_in, all-events, frames-arrive}
use Rattle.sender.proofs.Sends.{sends-all}
use Rattle.sender.proofs.Arrival.{arrive}

-- ---- the entries are deliveries and headers
module _ (m : Entry → ℕ) where
  total-frames : (fs : List Frame) → ((d : Delivery) → m (Entry.Delivered d) ≡ 0) → total m (map entry_of (map delivered fs)) ≡ 0
  total-frames [] h = refl
  total-frames (f ∷ fs) h = let a : m (Entry.Delivered (delivery_of f)) ≡ 0 = h (delivery_of f) in let b : total m (map entry_of (map delivered fs)) ≡ 0 = total-frames fs h in omega arith

  total-headers : (vs : List Seen) → ((n : ℕ) → m (Entry.Headers n) ≡ 0) → total m (loose (map event_in vs)) ≡ 0
  total-headers [] h = refl
  total-headers (v ∷ vs) h = let a : m (Entry.Headers v.header.len) ≡ 0 = h v.header.len in let b : total m (loose (map event_in vs)) ≡ 0 = total-headers vs h in omega arith

  total-none : (fs : List Frame) (vs : List Seen) → ((d : Delivery) → m (Entry.Delivered d) ≡ 0) → ((n : ℕ) → m (Entry.Headers n) ≡ 0) → total m (map entry_of (map delivered fs) ++ loose (map event_in vs)) ≡ 0
  total-none fs vs g h = let a = total-frames fs g in let b = total-headers vs h in total-append m (map entry_of (map delivered fs)) (loose (map event_in vs)) ∙ (λ i. a i + b i)

frame-stamps : (fs : List Frame) → stamps (map entry_of (map delivered fs)) ≡ stamps_in fs
frame-stamps [] = refl
frame-stamps (f ∷ fs) = ap (λ (l : List ℕ). stamp_list f.stamp ++ l) (frame-stamps fs)

frame-plain : (fs : List Frame) → total untimed (map entry_of (map delivered fs)) ≡ plain_in fs
frame-plain [] = refl
frame-plain (f ∷ fs) = ap (λ (n : ℕ). no_stamp f.stamp + n) (frame-plain fs)

-- an account that is neither
module _ (a : Account) (h : a ≡ Account.Headers → ⊥) (d : a ≡ Account.Delivered → ⊥) where
  other-places : (eqb (place_of Account.Delivered) (place_of a) ≡ false) × (eqb (place_of Account.Headers) (place_of a) ≡ false)
  other-places = go a h d
    where
      go : (a : Account) → (a ≡ Account.Headers → ⊥) → (a ≡ Account.Delivered → ⊥) → (eqb (place_of Account.Delivered) (place_of a) ≡ false) × (eqb (place_of Account.Headers) (place_of a) ≡ false)
      go Account.Delivered h d = absurd (d refl)
      go Account.Gap h d = (refl, refl)
      go Account.Error h d = (refl, refl)
      go Account.Clock h d = (refl, refl)
      go Account.Long h d = (refl, refl)
      go Account.Cut h d = (refl, refl)
      go Account.Empty h d = (refl, refl)
      go Account.Still h d = (refl, refl)
      go Account.Mixed h d = (refl, refl)
      go Account.UnderWay h d = (refl, refl)
      go Account.Stray h d = (refl, refl)
      go Account.Unreadable h d = (refl, refl)
      go Account.Headers h d = absurd (h refl)

-- frames that a receiver can take are refused neither by 80 nor by 81
module _ (o : Opening) (sizes : sizes_broken o ≡ false) where
  sendable-free : (f : Frame) → Sendable o f → NoneOf (frame_rows (length f.load) o.payload f.stamp)
  unfolding sizes_broken frame_size_broken payload_broken
  sendable-free f w =
      let a : o.frame ≤ frame_most = (frame-sound o.frame (or-first _ _ sizes)).high in
      let b : o.payload ≤ payload_most = (payload-sound o.payload (or-second (frame_size_broken o.frame) _ sizes)).high in
      let c : length f.load ≤ frame_most = omega (arith, w.few) in (
        rw (ne_eqb (length f.load) 0 (λ (z : length f.load ≡ 0). omega (arith, w.some)), le-ltb frame_most (length f.load) c) refl,
        (rw (lt-leb o.payload (size_of f.stamp) w.above, le-ltb payload_most o.payload b) refl, tt),
      )

  pub all-free : (fs : List Frame) → AllSendable o fs → AllFree o.payload fs
  all-free [] w = tt
  all-free (f ∷ fs) w = (sendable-free f w.0, all-free fs w.1)

-- EVERY SEQUENCE OF SENDABLE FRAMES ARRIVES
pub arrives : (o : Opening) (buffer : List ℕ) (fs : List Frame) → Receives o buffer fs → Arrives o buffer fs
arrives o buffer fs r = record {
  sent = sends-all o.payload fs false (all-free o r.sizes fs r.each);
  taken = (arrive o r.kind r.eof r.sizes buffer r.room (λ (a : Said) (b : List ℕ). a) fs r.each r.limit).0;
  answers = (arrive o r.kind r.eof r.sizes buffer r.room (λ (a : Said) (b : List ℕ). a) fs r.each r.limit).1;
  bytes = (arrive o r.kind r.eof r.sizes buffer r.room (λ (a : Said) (b : List ℕ). b) fs r.each r.limit).1;
  frames = ap (frames_by o) list ∙ framed;
  others = λ a h d. let p = other-places a h d in (
    books.bytes a ∙ counted (part_in (place_of a)) (λ z. rw p.0 refl) (λ n. rw p.1 refl),
    books.counts a ∙ counted (one_in (place_of a)) (λ z. rw p.0 refl) (λ n. rw p.1 refl),
  );
  losses = books.losses ∙ counted (one_in lost_line) (λ z. refl) (λ n. refl);
  idles = books.idles ∙ counted (one_in idle_line) (λ z. refl) (λ n. refl);
  ticks = books.ticks ∙ ap (between forward) stamped;
  backward = books.backward ∙ ap (between back) stamped;
  untimed = books.plain ∙ ap (total untimed) entered ∙ total-append untimed (map entry_of (map delivered fs)) (loose (map event_in vs)) ∙ plain;
}
  where
    vs : List Seen
    vs = seen_all o.payload false fs

    cs : List Call
    cs = map Call.transfer (sent_of o.payload false fs)

    list : list_of o (offered o buffer fs) ≡ cs
    list = sym (nothing-missing.list o (offered o buffer fs)) ∙ (arrive o r.kind r.eof r.sizes buffer r.room (λ (a : Said) (b : List ℕ). a) fs r.each r.limit).2

    framed : frames_by o cs ≡ map delivered fs
    framed = frames-arrive o r.kind r.eof false fs r.each

    books : Right o (list_of o (offered o buffer fs)) (ledger_in o buffer fs)
    books = nothing-missing.accounts o (offered o buffer fs)

    entered : entries o (list_of o (offered o buffer fs)) ≡ map entry_of (map delivered fs) ++ loose (map event_in vs)
    entered = ap (entries o) list ∙ (λ i. map entry_of (framed i) ++ loose (all-events o r.kind r.eof false fs r.each i))

    counted : (m : Entry → ℕ) → ((d : Delivery) → m (Entry.Delivered d) ≡ 0) → ((n : ℕ) → m (Entry.Headers n) ≡ 0) → total m (entries o (list_of o (offered o buffer fs))) ≡ 0
    counted m g h = ap (total m) entered ∙ total-none m fs vs g h

    stamped : stamps (entries o (list_of o (offered o buffer fs))) ≡ stamps_in fs
    stamped = ap stamps entered ∙ stamps-append (map entry_of (map delivered fs)) (loose (map event_in vs)) ∙ (λ i. frame-stamps fs i ++ loose-stamped (map event_in vs) i) ∙ append-nil (stamps_in fs)

    plain : total untimed (map entry_of (map delivered fs)) + total untimed (loose (map event_in vs)) ≡ plain_in fs
    plain = let a = frame-plain fs in let b = total-headers untimed vs (λ n. refl) in omega arith
