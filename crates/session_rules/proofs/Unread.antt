-- What rule 50 does not read: the framing byte, the header kind, and of a frame under way its FID, still bit, stamp and layer. So none of these breaks it, forged or not.
use Rattle.session_rules.specs.Options.{Layer, Stamp}
use Prim.Native.Nat.{ℕ}
use mathlib.Core.Path.{◌≡◌, refl}
use mathlib.Core.Bool.{Bool}
use Rattle.sizes.specs.declared.Opening.{Opening}
use Rattle.sizes.specs.declared.HeaderKind.{HeaderKind}
use Rattle.sizes.specs.Sizes.{sizes_broken}
use Rattle.session_rules.specs.declared.Run.{Run}
use Rattle.session_rules.specs.declared.Phase.TheVariants.{Under}
use Rattle.session_rules.specs.declared.Ledger.{Ledger}
use Rattle.session_rules.specs.Ledger.{shown_of}
use Rattle.session_rules.specs.Rule50.{fill_broken, rule50}

-- another framing byte and kind; another FID, still bit, stamp and layer
abbrev pub opened : Opening → ℕ → HeaderKind → Opening
opened o framing k = record { frame = o.frame; payload = o.payload; framing = framing; kind = k }

abbrev pub marked : Run → Bool → Bool → Stamp → Layer → Run
marked r f b s y = record { bytes = r.bytes; fill = r.fill; fault = r.fault; fid = f; still = b; stamp = s; layer = y }

pub unread : (o : Opening) (framing : ℕ) (k : HeaderKind) (r : Run) (f b : Bool) (s : Stamp) (y : Layer) (l : Ledger) (n : ℕ) →
    rule50 (opened o framing k) (Under (marked r f b s y)) (shown_of l (Under (marked r f b s y))) n ≡ rule50 o (Under r) (shown_of l (Under r)) n
unfolding rule50 sizes_broken fill_broken shown_of
unread o framing k r f b s y l n = refl
