-- A job cut in two by its calls: those before the middle frame, its own, and those after it. The first half has those before and its own, the second its own
-- and those after.
use Rattle.std.specs.Prelude.{◌≡◌, false, List, [], ◌∷◌, ℕ, Some}
use Rattle.sizes.specs.declared.Opening.{Opening}
use Rattle.session_rules.specs.declared.Header.{Header}
use Rattle.session_rules.specs.declared.Reading.TheVariants.{Readable}
use Rattle.session_rules.specs.Transfer.{reading_of}
use Rattle.session_rules.specs.declared.Delivery.{Delivery}
use Rattle.session_rules.specs.Entry.{Entry}
use Rattle.session_rules.specs.Call.{Call}
use Rattle.books.specs.Rule.{events, Item, frames_by}
use Rattle.books.specs.LastReadable.{none, last_fid, spoilt_since, Other}

-- THE MIDDLE FRAME: t and the calls `own` after it. t is readable, has another FID than the last readable transfer before it, and nothing unreadable or lost has
-- come since that one; and the frame's calls, by themselves, are one frame, delivered and stamped (with D1 clear, its mark is among them).
pub record Middle (o : Opening) (before : List Call) (t : List ℕ) (own : List Call) : Type 0 where
  pub header : Header
  pub reads : reading_of o t ≡ Readable header
  pub other : Other header.fid (last_fid none (events o before))
  pub unspoilt : spoilt_since false (events o before) ≡ false
  pub item : Item
  pub alone : frames_by o (Call.transfer t ∷ own) ≡ item ∷ []
  pub delivery : Delivery
  pub delivered : item.entry ≡ Entry.Delivered delivery
  pub stamp : ℕ
  pub stamped : delivery.stamp ≡ Some stamp
