use Rattle.std.proofs.Common.{◌≡◌, ◌≤◌, ◌++◌, length, take, drop, ap, sym, ◌∙◌}
use lib.Seq.{take_all}
use Rattle.probe.specs.Fields.{probe_size}
use native.Mathlib.Omega.{arith}
use Rattle.probe.proofs.Tests.{write-short, write-whole, prefix-length, copied}
use Rattle.probe.specs.Fields.{Held}
use Rattle.probe.proofs.RoundTrip.{short_back, whole_back}
use Rattle.probe.proofs.write.Goals as goal

pub returns-then-room-size : goal.returns-then-room-size
returns-then-room-size c = record { value = write-short _ _ _ (rw c.size_of-size.ensures.0 at c.if-room-size.true); reads_back = short_back _ _ c.args.room.now (rw c.size_of-size.ensures.0 at c.if-room-size.true) }

pub returns : goal.returns
returns c =
    let size = c.size_of-size.result in
    let block = c.bytes_of-block.result in
    let room = c.args.room.now in
    let n : size ≡ length (take size block) = prefix-length _ _ _ c.bytes_of-block.ensures c.size_of-size.ensures.2 in
    let l : c.copy_from_slice.new.self ++ drop size room ≡ take size (take size block) ++ drop size room =
    ap (λ x. x ++ drop size room) (c.copy_from_slice.ensures.after ∙ sym (take_all size (take size block) (omega arith))) in
    let fits : probe_size c.args.revision ≤ length room = rw c.size_of-size.ensures.0 at c.if-room-size.false in
    let w = write-whole _ _ _ _ fits (copied _ _ _ _ _ _ _ c.bytes_of-block.ensures c.size_of-size.ensures.0 n l) in
    let g = c.well_formed.0 in
    let h : Held c.args.p = record {
      hint = omega (arith, g);
      interval = omega (arith, g);
      key_rate = omega (arith, g);
      p_rate = omega (arith, g);
      quality = omega (arith, g);
      window = omega (arith, g);
      delay = omega (arith, g);
      frame_size = omega (arith, g);
      payload_size = omega (arith, g);
      clock = omega (arith, g);
      rate_modes = omega (arith, g);
      layout = omega (arith, g);
    } in
    record { value = w; reads_back = whole_back _ _ _ _ h fits w.1 }
