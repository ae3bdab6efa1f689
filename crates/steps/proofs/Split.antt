-- A job split at a middle frame.
use Rattle.std.specs.Prelude.{Some}
use Rattle.session_rules.specs.Options.{Stamp}
use Prim.Native.Nat.{ℕ, ◌+◌}
use mathlib.Core.Path.{◌≡◌, ap, ◌∙◌, subst}
use mathlib.Core.Bool.{true}
use mathlib.Core.List.{List, [], ◌∷◌, ◌++◌, map, append-nil}
use native.Mathlib.Omega.{arith}
use native.Mathlib.Nat.{add-zero}
use Rattle.sizes.specs.declared.Opening.{Opening}
use Rattle.session_rules.specs.declared.Delivery.{Delivery}
use Rattle.session_rules.specs.Accounts.{ticks_at, backward_at, untimed_at}
use Rattle.session_rules.specs.Entry.{Entry}
use Rattle.session_rules.specs.Session.{fresh}
use Rattle.session_rules.specs.Call.{Call}
use Rattle.session_rules.specs.Calls.{Offer}
use Rattle.books.specs.Offers.{list_of}
use Rattle.books.specs.Rule.{Event, Item, events, is_open, loose, entry_of, entries, frames_by, total, stamps, stamp_list, untimed, no_stamp, forward, back, between}
use Rattle.books.proofs.Taken.{Proper, taken-proper}
use Rattle.books.proofs.Posts.{total-append}
use Rattle.books.proofs.History.{map-append, stamps-append}
use Rattle.books.proofs.Accounts.{loose-stamped, loose-timed}
use Rattle.books.proofs.Proved.{nothing-missing}
use Rattle.steps.specs.Cut.{Middle}
use Rattle.steps.specs.Halves.{StampHalves, EntryHalves, Job, job, frames_in, Split, billed, BillAsWhole, Halves}
use Rattle.books.proofs.Begins.{proper-open, proper-later, earlier, frames-from, frames-after}

-- ---- stamps: what is added up between neighbours, of two parts that share one
between-shared : (f : ℕ → ℕ → ℕ) (before : List ℕ) (m : ℕ) (after : List ℕ) →
    between f (before ++ (m ∷ after)) ≡ between f (before ++ (m ∷ [])) + between f (m ∷ after)
between-shared f [] m after = omega arith
between-shared f (a ∷ []) m after = omega arith
between-shared f (a ∷ b ∷ before) m after = let i = between-shared f (b ∷ before) m after in omega arith

of-stamps : (before : List ℕ) (middle : ℕ) (after : List ℕ) → StampHalves before middle after
of-stamps before middle after =
    record { ticks = between-shared forward before middle after; backward = between-shared back before middle after }

-- ---- entries
module _ (before after : List Entry) (d : Delivery) (s : ℕ) (e : d.stamp ≡ Some s) where
  abbrev middle : Entry
  middle = Entry.Delivered d

  cut : (rest : List Entry) → stamps (before ++ (middle ∷ rest)) ≡ stamps before ++ (s ∷ stamps rest)
  cut rest = stamps-append before (middle ∷ rest) ∙ ap (λ (x : Stamp). stamps before ++ (stamp_list x ++ stamps rest)) e

  here : (rest : List Entry) → stamps (middle ∷ rest) ≡ s ∷ stamps rest
  here rest = ap (λ (x : Stamp). stamp_list x ++ stamps rest) e

  shared : (f : ℕ → ℕ → ℕ) → between f (stamps (before ++ (middle ∷ after))) ≡
      between f (stamps (before ++ (middle ∷ []))) + between f (stamps (middle ∷ after))
  shared f = rw (cut after, cut [], here after) (between-shared f (stamps before) s (stamps after))

  plain : total untimed (before ++ (middle ∷ after)) ≡ total untimed (before ++ (middle ∷ [])) + total untimed (middle ∷ after)
  plain =
      let u : untimed middle ≡ 0 = ap no_stamp e in
      omega (arith, u, total-append untimed before (middle ∷ after), total-append untimed before (middle ∷ []))

  of-entries : EntryHalves before middle after
  of-entries = record { ticks = shared forward; backward = shared back; plain = plain }

-- ---- jobs
-- a job's time, from the entries of its frames alone
record Timed (j : Job) (es : List Entry) : Type 0 where
  ticks : billed j ticks_at ≡ between forward (stamps es)
  backward : billed j backward_at ≡ between back (stamps es)
  plain : billed j untimed_at ≡ total untimed es

timed : (j : Job) → Timed j (map entry_of (frames_in j))
timed j =
    let right = nothing-missing.accounts j.opening j.offered in
    record {
      ticks = right.ticks ∙ ap (between forward) stamped;
      backward = right.backward ∙ ap (between back) stamped;
      plain = right.plain ∙ total-append untimed (map entry_of (frames_in j)) (loose others) ∙ ap (total untimed (map entry_of (frames_in j)) +◌) (loose-timed others) ∙ add-zero _;
    }
  where
    others : List Event
    others = events j.opening (list_of j.opening j.offered)

    stamped : stamps (entries j.opening (list_of j.opening j.offered)) ≡ stamps (map entry_of (frames_in j))
    stamped =
        stamps-append (map entry_of (frames_in j)) (loose others) ∙ ap (stamps (map entry_of (frames_in j)) ++◌) (loose-stamped others) ∙ append-nil _

module _ (whole first second : Job) (p : Split whole first second) where
  timed-at : (j : Job) (before after : List Item) → frames_in j ≡ before ++ (p.middle ∷ after) →
      Timed j (map entry_of before ++ (Entry.Delivered p.delivery ∷ map entry_of after))
  timed-at j before after e =
      subst (Timed j)
      (ap (map entry_of) e
      ∙ map-append before (p.middle ∷ after)
      ∙ ap (λ (x : Entry). map entry_of before ++ (x ∷ map entry_of after)) p.delivered)
      (timed j)

  of-jobs : BillAsWhole whole first second
  of-jobs =
      let w = timed-at whole p.before p.after p.all in
      let f = timed-at first p.before [] p.up_to in
      let s = timed-at second [] p.after p.from in
      let h = of-entries (map entry_of p.before) (map entry_of p.after) p.delivery p.stamp p.stamped in
      record {
        ticks = rw (w.ticks, f.ticks, s.ticks) h.ticks;
        backward = rw (w.backward, f.backward, s.backward) h.backward;
        untimed = rw (w.plain, f.plain, s.plain) h.plain;
      }

-- ---- calls
module _ (o : Opening) (whole first second : List Offer) (before : List Call) (t : List ℕ) (own after : List Call) (m : Middle o before t own)
    (w : list_of o whole ≡ before ++ (Call.transfer t ∷ (own ++ after))) (f : list_of o first ≡ before ++ (Call.transfer t ∷ own))
    (s : list_of o second ≡ Call.transfer t ∷ (own ++ after)) where
  -- what the list of a job's offers is, a session has taken
  proper-as : (xs : List Offer) (cs : List Call) → list_of o xs ≡ cs → Proper (fresh o) cs
  proper-as xs cs e = subst (Proper (fresh o)) (nothing-missing.list o xs ∙ e) (taken-proper (fresh o) xs)

  proper-first : Proper (fresh o) (before ++ (Call.transfer t ∷ own))
  proper-first = proper-as first _ f

  open₀ : is_open before ≡ true
  open₀ = proper-open before (Call.transfer t) own (fresh o) proper-first

  -- the frames of a list that goes on with the middle one's first transfer
  abbrev frames-before : List Item
  frames-before = earlier o before t m.header m.reads m.other m.unspoilt open₀

  from-middle : (rest : List Call) → Proper (fresh o) (before ++ (Call.transfer t ∷ rest)) →
      frames_by o (before ++ (Call.transfer t ∷ rest)) ≡ frames-before ++ frames_by o (Call.transfer t ∷ rest)
  from-middle rest p = frames-from o before t m.header m.reads m.other m.unspoilt open₀ rest p

  split-calls : Split (job o whole) (job o first) (job o second)
  split-calls =
      let second-frames =
      frames-after o (Call.transfer t ∷ own) after m.item m.delivery m.delivered m.alone
      (proper-later o before t m.header m.reads m.other m.unspoilt open₀ own proper-first) (proper-as second _ s) in
      record {
        before = frames-before;
        middle = m.item;
        after = second-frames.0;
        all = ap (frames_by o) w ∙ from-middle (own ++ after) (proper-as whole _ w) ∙ ap (frames-before ++◌) second-frames.1;
        up_to = ap (frames_by o) f ∙ from-middle own proper-first ∙ ap (frames-before ++◌) m.alone;
        from = ap (frames_by o) s ∙ second-frames.1;
        delivery = m.delivery;
        delivered = m.delivered;
        stamp = m.stamp;
        stamped = m.stamped;
      }

  of_calls : BillAsWhole (job o whole) (job o first) (job o second)
  of_calls = of-jobs (job o whole) (job o first) (job o second) split-calls

pub halves : Halves
halves = record { of-stamps = of-stamps; of-entries = of-entries; of-jobs = of-jobs; of_calls = of_calls }
