-- The frame under way: what the account under way has of it, and how far it is written.
use Rattle.std.specs.Prelude.{ℕ, ◌≤◌, ◌≡◌, Bool, true, false, None}
use Rattle.sizes.specs.declared.Opening.{Opening}
use Rattle.session_rules.specs.declared.Run.{Run}
use Rattle.session_rules.specs.declared.Delivery.{Delivery}
use Rattle.session_rules.specs.declared.Fate.{Fate}
use Rattle.session_rules.specs.declared.Phase.{Phase}
use Rattle.session_rules.specs.declared.Phase.TheVariants.{Fresh, Under, Past}

-- the account under way: one frame and its data so far, if there is one
abbrev pub under_count : Phase → ℕ
under_count Fresh = 0
under_count (Past fid) = 0
under_count (Under r) = 1

abbrev pub under_bytes : Phase → ℕ
under_bytes Fresh = 0
under_bytes (Past fid) = 0
under_bytes (Under r) = r.bytes

-- a frame is filled to no more than the frame size, and while it has no fault with all its data
pub record Filled (o : Opening) (r : Run) : Type 0 where
  pub within : r.fill ≤ o.frame
  pub whole : r.fault ≡ None → r.fill ≡ r.bytes

abbrev pub FilledBy : Opening → Phase → Type 0
FilledBy o Fresh = Unit {0}
FilledBy o (Past fid) = Unit {0}
FilledBy o (Under r) = Filled o r

-- a fate that hands a frame out: as a still, or delivered
abbrev pub handing : Bool → Delivery → Fate
handing true d = Fate.Still d
handing false d = Fate.Delivered d
