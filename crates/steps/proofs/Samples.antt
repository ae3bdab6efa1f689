-- Cases by computation.
use Rattle.std.specs.Prelude.{None, Some}
use Prim.Native.Nat.{ℕ}
use mathlib.Core.Path.{◌≡◌, refl, sym}
use mathlib.Core.Bool.{true≢false}
use mathlib.Core.List.{List, [], ◌∷◌, map}
use lib.ListN.{replicate}
use lib.IntN.{pos, neg_ℤ, ◌+ℤ◌}
use Rattle.rules.specs.IfElse.{if_else}
use Rattle.rules.specs.Numbered.{any_below}
use Rattle.sizes.specs.Sizes.{frame_size_broken, payload_size_broken, sizes_broken}
use Rattle.sizes.specs.declared.Opening.{Opening}
use Rattle.sizes.specs.declared.HeaderKind.TheVariants.{Old}
use Rattle.sizes.specs.Framing.{by_eof}
use Rattle.session_rules.specs.Layouts.{header_layout}
use Rattle.session_rules.specs.Transfer.{flag_of, layer_place, need_of, rows_by, stamp_of, layer_of, header_by, header_of, reading_of}
use Rattle.session_rules.specs.Turns.{turn_of, hands_of, out_of, spoilt_of, closed_of}
use Rattle.session_rules.specs.Entry.{Entry}
use Rattle.session_rules.specs.Ledger.{plus_of, timed_of, post_of, shown_of}
use Rattle.session_rules.specs.Accounts.{ticks_at, backward_at, untimed_at}
use Rattle.session_rules.specs.Rule50.{rule50, fill_broken, accounts_broken, counts_broken}
use Rattle.session_rules.specs.Session.{read_of, took_of, hands_out, handed_of, take_of}
use Rattle.session_rules.specs.Call.{Call}
use Rattle.session_rules.specs.Calls.{Offer}
use Rattle.steps.specs.Signed.{signed, lowest}
use Rattle.steps.specs.Cut.{Middle}
use Rattle.steps.specs.Halves.{job, billed, BillAsWhole}
use Rattle.steps.proofs.Split.{halves}

-- ---- steps: over the end of the clock and back; half the clock, both ways; a sum that is out of range
over-the-end : signed 0xFFFFFFF0 0x00000010 ≡ pos 32
unfolding if_else
over-the-end = refl

and-back : signed 0x00000010 0xFFFFFFF0 ≡ neg_ℤ (pos 32)
unfolding if_else
and-back = refl

half : signed 0 0x80000000 ≡ lowest
unfolding if_else
half = refl

half_back : signed 0x80000000 0 ≡ lowest
unfolding if_else
half_back = refl

out_of_range : (signed 0 0x60000000 +ℤ signed 0x60000000 0xC0000000 ≡ pos 0xC0000000) × (signed 0 0xC0000000 ≡ neg_ℤ (pos 0x40000000))
unfolding if_else
out_of_range = (refl, refl)

-- ---- a job: five frames with stamps FFFFFFF0, 10, none, C and 20, split at the second
abbrev opening : Opening
opening = record { frame = 256; payload = 62; framing = 3; kind = Old }

abbrev offered : List (List ℕ) → List Offer
offered ts = map (Offer.take (replicate 256 0)) ts

abbrev first : List ℕ
first = 0x06 ∷ 0x86 ∷ 0xF0 ∷ 0xFF ∷ 0xFF ∷ 0xFF ∷ 0xAA ∷ []

abbrev middle : List ℕ
middle = 0x06 ∷ 0x87 ∷ 0x10 ∷ 0x00 ∷ 0x00 ∷ 0x00 ∷ 0xBB ∷ []

abbrev others : List (List ℕ)
others =
    (0x02 ∷ 0x82 ∷ 0xCC ∷ [])
    ∷ (0x06 ∷ 0x87 ∷ 0x0C ∷ 0x00 ∷ 0x00 ∷ 0x00 ∷ 0xDD ∷ [])
    ∷ (0x06 ∷ 0x86 ∷ 0x20 ∷ 0x00 ∷ 0x00 ∷ 0x00 ∷ 0xEE ∷ [])
    ∷ []

abbrev whole : List Offer
whole = offered (first ∷ middle ∷ others)

abbrev first-half : List Offer
first-half = offered (first ∷ middle ∷ [])

abbrev second-half : List Offer
second-half = offered (middle ∷ others)

at-middle : Middle opening (Call.transfer first ∷ []) middle []
unfolding if_else any_below frame_size_broken payload_size_broken by_eof header_layout flag_of layer_place need_of rows_by stamp_of layer_of header_by reading_of turn_of spoilt_of closed_of plus_of timed_of post_of shown_of sizes_broken fill_broken accounts_broken counts_broken rule50 read_of took_of hands_out hands_of take_of
at-middle =
    record {
      header = header_of opening middle;
      reads = refl;
      other = λ e. true≢false (sym e);
      unspoilt = refl;
      item = record { entry = Entry.Delivered (record { len = 1; stamp = Some 0x10; layer = None }); load = 0xBB ∷ [] };
      alone = refl;
      delivery = record { len = 1; stamp = Some 0x10; layer = None };
      delivered = refl;
      stamp = 0x10;
      stamped = refl;
    }

in_halves : BillAsWhole (job opening whole) (job opening first-half) (job opening second-half)
unfolding if_else any_below frame_size_broken payload_size_broken by_eof header_layout flag_of layer_place need_of rows_by stamp_of layer_of header_by reading_of turn_of spoilt_of closed_of plus_of timed_of post_of shown_of sizes_broken fill_broken accounts_broken counts_broken rule50 read_of took_of hands_out hands_of take_of
in_halves =
    halves.of_calls opening whole first-half second-half (Call.transfer first ∷ []) middle [] (map Call.transfer others) at-middle refl refl refl

-- forward 32 in the first half and 20 in the second, once backward and once untimed
numbers : (billed (job opening whole) ticks_at ≡ 52) × (billed (job opening whole) backward_at ≡ 1) × (billed (job opening whole) untimed_at ≡ 1)
unfolding if_else any_below frame_size_broken payload_size_broken by_eof header_layout flag_of layer_place need_of rows_by stamp_of layer_of header_by reading_of turn_of spoilt_of closed_of plus_of timed_of post_of shown_of sizes_broken fill_broken accounts_broken counts_broken rule50 read_of took_of hands_out hands_of take_of
numbers = (refl, refl, refl)

-- ---- the same of a camera that sends no EOF (D1 clear): frames with stamps FFFFFFF0, 10 and 20, split at the second. Each is handed out by the next one's first transfer, which is offered again.
abbrev by-fid : Opening
by-fid = record { frame = 256; payload = 62; framing = 1; kind = Old }

abbrev a : List ℕ
a = 0x06 ∷ 0x84 ∷ 0xF0 ∷ 0xFF ∷ 0xFF ∷ 0xFF ∷ 0xAA ∷ []

abbrev b : List ℕ
b = 0x06 ∷ 0x85 ∷ 0x10 ∷ 0x00 ∷ 0x00 ∷ 0x00 ∷ 0xBB ∷ []

abbrev c : List ℕ
c = 0x06 ∷ 0x84 ∷ 0x20 ∷ 0x00 ∷ 0x00 ∷ 0x00 ∷ 0xCC ∷ []

abbrev d : List ℕ
d = 0x02 ∷ 0x81 ∷ 0xDD ∷ []

at-middle-by-fid : Middle by-fid (Call.transfer a ∷ Call.handed ∷ []) b (Call.handed ∷ [])
unfolding if_else any_below frame_size_broken payload_size_broken by_eof header_layout flag_of layer_place need_of rows_by stamp_of layer_of header_by reading_of turn_of spoilt_of closed_of plus_of timed_of post_of shown_of sizes_broken fill_broken accounts_broken counts_broken rule50 read_of took_of hands_out hands_of out_of handed_of take_of
at-middle-by-fid =
    record {
      header = header_of by-fid b;
      reads = refl;
      other = λ e. true≢false (sym e);
      unspoilt = refl;
      item = record { entry = Entry.Delivered (record { len = 1; stamp = Some 0x10; layer = None }); load = 0xBB ∷ [] };
      alone = refl;
      delivery = record { len = 1; stamp = Some 0x10; layer = None };
      delivered = refl;
      stamp = 0x10;
      stamped = refl;
    }

in-halves-by-fid : BillAsWhole (job by-fid (offered (a ∷ b ∷ b ∷ c ∷ c ∷ d ∷ []))) (job by-fid (offered (a ∷ b ∷ b ∷ c ∷ []))) (job by-fid (offered (b ∷ c ∷ c ∷ d ∷ [])))
unfolding if_else any_below frame_size_broken payload_size_broken by_eof header_layout flag_of layer_place need_of rows_by stamp_of layer_of header_by reading_of turn_of spoilt_of closed_of plus_of timed_of post_of shown_of sizes_broken fill_broken accounts_broken counts_broken rule50 read_of took_of hands_out hands_of out_of handed_of take_of
in-halves-by-fid =
    halves.of_calls by-fid (offered (a ∷ b ∷ b ∷ c ∷ c ∷ d ∷ [])) (offered (a ∷ b ∷ b ∷ c ∷ [])) (offered (b ∷ c ∷ c ∷ d ∷ [])) (Call.transfer a ∷ Call.handed ∷ []) b (Call.handed ∷ [])
    (Call.transfer c ∷ Call.handed ∷ []) at-middle-by-fid refl refl refl

numbers-by-fid : (billed (job by-fid (offered (a ∷ b ∷ b ∷ c ∷ []))) ticks_at ≡ 32) × (billed (job by-fid (offered (b ∷ c ∷ c ∷ d ∷ []))) ticks_at ≡ 16)
    × (billed (job by-fid (offered (a ∷ b ∷ b ∷ c ∷ c ∷ d ∷ []))) ticks_at ≡ 48)
unfolding if_else any_below frame_size_broken payload_size_broken by_eof header_layout flag_of layer_place need_of rows_by stamp_of layer_of header_by reading_of turn_of spoilt_of closed_of plus_of timed_of post_of shown_of sizes_broken fill_broken accounts_broken counts_broken rule50 read_of took_of hands_out hands_of out_of handed_of take_of
numbers-by-fid = (refl, refl, refl)
