-- The short way of take: what a transfer that goes on with the frame under way is good for, and that it is kept.
use Prim.Native.Nat.{ℕ, ◌+◌, ◌-◌, ◌≤◌, ◌<◌, ◌^◌}
use mathlib.Core.Path.{◌≡◌, refl, sym, ◌∙◌}
use mathlib.Core.Bool.{true, false}
use mathlib.Core.List.{List}
use native.Mathlib.Omega.{arith}
use lib.ListN.{length, take, drop, length-drop}
use lib.Seq.{paste, length-take-le, take-length}
use Rattle.rules.specs.Numbered.{NoneOf}
use Rattle.session_rules.specs.declared.Run.{Run}
use Rattle.session_rules.specs.declared.Phase.TheVariants.{Under}
use Rattle.session_rules.specs.declared.Account.{Account}
use Rattle.session_rules.specs.declared.Rest.{Rest}
use Rattle.session_rules.specs.declared.Session.{Session}
use Rattle.session_rules.specs.Track.{Filled}
use Rattle.session_rules.specs.Transfer.{length_at}
use Rattle.session_rules.specs.OldKind.{old_header}
use Rattle.session_rules.specs.Refusals.{taken_most, take_rows}
use Rattle.session_rules.specs.Session.{take_of, buffer_of}
use Rattle.ledger.specs.Inner.{entered_in, Room}
use Rattle.ledger.proofs.Lent.{with-headers}
use Rattle.going_on.specs.GoingOn.{goes_on, went_on}
use Rattle.going_on.specs.Bytes.{data_of}
use Rattle.going_on.proofs.GoingOn.{sound-is, goes_on_lem, goes-on-buffer}
use Rattle.going_on.proofs.Bytes.{Asked, asked, bytes_read, bytes-go-on}
use Rattle.short_way.specs.Inner.{counted_rest, kept_with, GoesOn}
use Rattle.short_way.proofs.Ready.{AbleOf, ready-able, take_none, Free, take-ready}

module _ (s : Session) (r : Run) (room : ℕ) (t : List ℕ) (g : GoesOn s r room t) (few : s.rest.taken < 2 ^ 32) where
  pub free : Free s g.places few room (length t)
  free = take-ready s g.places few room (length t) g.free

  able : AbleOf s
  able = ready-able s free.ready

  asks : Asked s.rest.opening r t
  asks = asked s.rest.opening r t g.on

  filled : Filled s.rest.opening r
  filled = rw g.under at able.filled

  fill_is : r.fill ≡ r.bytes
  fill_is = filled.whole (sound-is r.fault asks.sound)

  -- ---- what its calls ask
  pub record Fits : Type 0 where
    pub two : 2 ≤ length t
    pub header : length_at t ≤ length t
    pub bytes : r.bytes + data_of t < 2 ^ 63
    pub inside : r.fill + data_of t ≤ room
    pub more : s.rest.taken < taken_most
    pub spare : Room (2 ^ 63) s.numbers

  pub fits : Fits
  fits =
      record {
        two = asks.header.two;
        header = asks.header.inside;
        bytes = omega (arith, fill_is, asks.fits, able.frame.high);
        inside = omega (arith, asks.fits, free.whole);
        more = free.ready.more;
        spare = able.room;
      }

  none : NoneOf (take_rows s room (length t))
  none = take_none s room (length t) g.free

  on : goes_on s.rest.opening r (old_header t) (data_of t) ≡ true
  on = bytes-go-on s.rest.opening r t g.on fill_is

  -- ---- it is kept
  pub kept : (x : Run) (k : List ℕ) (y : Rest) → x ≡ went_on r (old_header t) (data_of t) → k ≡ entered_in s.numbers Account.Headers (length_at t) →
      y ≡ counted_rest s.rest (record { phase = Under x; gap = false }) s.rest.last →
      kept_with y k ≡ take_of s room t
  kept x k y e p q =
      rw (q, e, p, with-headers s.numbers s.rest.last (length_at t)) refl
      ∙ sym (goes_on_lem s t r (old_header t) g.under (bytes_read s.rest.opening r t g.on) on room none)

  -- ---- its data is written straight after the frame's earlier data
  module _ (from : ℕ) (e : from ≡ length_at t) (buffer : List ℕ) (whole : length buffer ≡ room) where
    abbrev after : List ℕ
    after = take (length t - from) (drop from t)

    data-length : length after ≡ data_of t
    data-length =
        let h = fits.header in
        rw e (length-take-le (length t - length_at t) (drop (length_at t) t) (rw length-drop (omega arith)))

    pub data-fits : (r.fill + length after ≤ length buffer) × (length after ≤ length (take (length buffer - r.fill) (drop r.fill buffer)))
    data-fits =
        let n = data-length in
        let h = fits.inside in
        let m = length-take-le (length buffer - r.fill) (drop r.fill buffer) (rw length-drop (omega arith)) in
        (omega (arith, n), omega (arith, n, m))

    pub written : paste buffer r.fill after (length after) ≡ buffer_of s buffer t
    written =
        rw (take-length, data-length, e) refl
        ∙ sym (goes-on-buffer s t r (old_header t) g.under (bytes_read s.rest.opening r t g.on) on buffer (rw whole none))
