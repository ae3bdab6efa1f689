-- Whatever is called, a ledger keeps all its numbers.
use Rattle.std.specs.Prelude.{None, Some}
use Rattle.session_rules.specs.Options.{Ended}
use Prim.Native.Nat.{ℕ, zero, suc, ◌-◌}
use mathlib.Core.Bool.{Bool, true, false}
use mathlib.Core.List.{List}
use lib.ListN.{length}
use Rattle.rules.specs.Numbered.{first_row}
use Rattle.session_rules.specs.declared.Reading.{Reading}
use Rattle.session_rules.specs.declared.Reading.TheVariants.{Idle, Unreadable, Readable}
use Rattle.session_rules.specs.Transfer.{reading_of}
use Rattle.session_rules.specs.declared.Fate.{Fate}
use Rattle.session_rules.specs.declared.Turn.{Turn}
use Rattle.session_rules.specs.declared.HandOut.{HandOut}
use Rattle.session_rules.specs.Track.{handing}
use Rattle.session_rules.specs.declared.Ledger.{Ledger}
use Rattle.session_rules.specs.Entry.{Entry}
use Rattle.session_rules.specs.Ledger.{post_of, ended_of, fated_of}
use Rattle.session_rules.specs.declared.Session.{Session}
use Rattle.session_rules.specs.Refusals.{posted_of, take_rows, lost_rows, close_rows}
use Rattle.session_rules.specs.Session.{turned, read_of, took_by, took_of, hands_out, handed_of, met_by, take_by, take_of, lost_by, lost_of, close_by, close_of}
use Rattle.books.proofs.Posts.{post-sized}
use Rattle.session_rules.proofs.Places.{Sized}
use Rattle.session_rules.specs.Turns.{out_of, closed_of}
use Rattle.session_rules.specs.Calls.{Offer, next}

module _ (s : Session) (z : Sized (posted_of s)) where
  ended-sized : (e : Ended) (gone : ℕ) (l : Ledger) → Sized l → Sized (ended_of l e gone)
  ended-sized None gone l h = h
  ended-sized (Some why) gone l h = post-sized l (Entry.Dropped why gone) h

  fated-sized : (f : Fate) (n : ℕ) (l : Ledger) → Sized l → Sized (fated_of l f n)
  fated-sized Fate.Idle n l h = post-sized l Entry.Idle h
  fated-sized Fate.Kept n l h = h
  fated-sized Fate.Stray n l h = post-sized l (Entry.Stray n) h
  fated-sized (Fate.Delivered d) n l h = post-sized l (Entry.Delivered d) h
  fated-sized (Fate.Still d) n l h = post-sized l (Entry.Still d) h
  fated-sized (Fate.Dropped why) n l h = post-sized l (Entry.Dropped why n) h
  fated-sized (Fate.Unreadable k) n l h = post-sized l (Entry.Unreadable n) h

  took-sized : (r : Reading) (t : List ℕ) → Sized (posted_of (took_by r s t).session)
  unfolding read_of
  took-sized Idle t = post-sized (posted_of s) Entry.Idle z
  took-sized (Unreadable k) t = post-sized (posted_of s) (Entry.Unreadable (length t)) z
  took-sized (Readable h) t =
      let x : Turn = turned s h (length t - h.len) in
      fated-sized x.answer.fate x.bytes (ended_of (post_of (posted_of s) (Entry.Headers h.len)) x.answer.ended x.gone)
      (ended-sized x.answer.ended x.gone (post_of (posted_of s) (Entry.Headers h.len)) (post-sized (posted_of s) (Entry.Headers h.len) z))

  handed-sized : Sized (posted_of (handed_of s).session)
  unfolding handed_of
  handed-sized =
      let x : HandOut = (out_of s.rest.track).frame in
      fated-sized (handing x.still x.delivery) x.delivery.len (posted_of s) z

  pub next-sized : (x : Offer) → Sized (posted_of (next s x))
  unfolding take_of took_of lost_of close_of
  next-sized (Offer.take b t) = go (first_row (take_rows s (length b) (length t)))
    where
      met : (b : Bool) → Sized (posted_of (met_by b s t).session)
      met true = handed-sized
      met false = took-sized (reading_of s.rest.opening t) t

      go : (k : ℕ) → Sized (posted_of (take_by k s t).session)
      go zero = met (hands_out s t)
      go (suc k) = z
  next-sized Offer.lost = go (first_row (lost_rows s))
    where
      go : (k : ℕ) → Sized (posted_of (lost_by k s).session)
      go zero = post-sized (posted_of s) Entry.Lost z
      go (suc k) = z
  next-sized Offer.close = go (first_row (close_rows s))
    where
      go : (k : ℕ) → Sized (posted_of (close_by k s).session)
      go zero = ended-sized (closed_of s.rest.track).ended (closed_of s.rest.track).gone (posted_of s) z
      go (suc k) = z
