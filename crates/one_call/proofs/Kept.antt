-- What a call leaves in the words is read back as it was, of a session with old headers.
use Rattle.std.specs.Prelude.{None, Some}
use Rattle.session_rules.specs.Options.{Fault, Stamp}
use Prim.Native.Nat.{ℕ, ◌<◌}
use mathlib.Core.Path.{◌≡◌, refl}
use mathlib.Core.Bool.{Bool, true, false}
use native.Mathlib.Nat.{mod-eq_of_lt}
use lib.Dec.{eqb}
use borrow.Author.Tests.{lt-ltb}
use Rattle.rules.specs.IfElse.{if_else}
use Rattle.sizes.specs.declared.HeaderKind.TheVariants.{Old}
use Rattle.session_rules.specs.declared.Reason.TheVariants.{Gap, Error, Clock, Mixed, Long, Cut, Empty}
use Rattle.session_rules.specs.declared.Run.{Run}
use Rattle.session_rules.specs.declared.Phase.{Phase}
use Rattle.session_rules.specs.declared.Phase.TheVariants.{Fresh, Under, Past}
use Rattle.session_rules.specs.declared.Rest.{Rest}
use Rattle.session_rules.specs.declared.Outcome.{Outcome}
use Rattle.one_call.specs.Words.{absent, one_of, stamp_in, stamp_word, fault_in, fault_word, phase_in, phase_word, run_of, rest_in, words_of}

-- what the types and the old headers say of a record
pub data StampFits : Stamp → Type 0 where
  none : StampFits None
  at : {x : ℕ} → x < absent → StampFits (Some x)

pub data PhaseFits : Phase → Type 0 where
  fresh : PhaseFits Fresh
  under : {run : Run} → StampFits run.stamp → run.layer ≡ None → PhaseFits (Under run)
  past : {fid : Bool} → PhaseFits (Past fid)

pub record Fits (r : Rest) : Type 0 where
  pub kind : r.opening.kind ≡ Old
  pub framing : r.opening.framing < 256
  pub taken : r.taken < 4294967296
  pub last : StampFits r.last
  pub phase : PhaseFits r.track.phase

bool-back : (b : Bool) → eqb (one_of b) 1 ≡ b
bool-back true = refl
bool-back false = refl

stamp-back : (s : Stamp) → StampFits s → stamp_in (stamp_word s) ≡ s
unfolding stamp_in if_else
stamp-back None none = refl
stamp-back (Some x) (at h) = rw (lt-ltb x absent h)

fault-back : (f : Fault) → fault_in (fault_word f) ≡ f
unfolding fault_in if_else
fault-back None = refl
fault-back (Some Gap) = refl
fault-back (Some Error) = refl
fault-back (Some Clock) = refl
fault-back (Some Mixed) = refl
fault-back (Some Long) = refl
fault-back (Some Cut) = refl
fault-back (Some Empty) = refl

-- a run, by way of its words
abbrev again : Run → Run
again r =
    record {
      bytes = r.bytes;
      fill = r.fill;
      stamp = stamp_in (stamp_word r.stamp);
      fid = eqb (one_of r.fid) 1;
      still = eqb (one_of r.still) 1;
      fault = fault_in (fault_word r.fault);
      layer = None;
    }

phase-back : (p : Phase) → PhaseFits p → phase_in (phase_word p) (again (run_of p)) ≡ p
unfolding phase_in if_else
phase-back Fresh fresh = refl
phase-back (Under run) (under s l) = rw (stamp-back run.stamp s, bool-back run.fid, bool-back run.still, fault-back run.fault, ← l)
phase-back (Past fid) past = rw (bool-back fid)

pub read_back : (r : Rest) (o : Outcome) → Fits r → rest_in (words_of r o) ≡ r
read_back r o f =
    rw (
      phase-back r.track.phase f.phase,
      bool-back r.closed,
      bool-back r.track.gap,
      stamp-back r.last f.last,
      mod-eq_of_lt f.framing,
      mod-eq_of_lt f.taken,
      ← f.kind,
    )
