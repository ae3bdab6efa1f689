-- The frames that ended of short lists, by the list alone and as the session tells them, as computed equalities.
use Rattle.std.specs.Prelude.{None, Some}
use Rattle.std.proofs.Common.{◌≡◌, ℕ, List, [], ◌∷◌, replicate, refl}
use Rattle.rules.specs.IfElse.{if_else}
use Rattle.rules.specs.Numbered.{any_below}
use Rattle.sizes.specs.declared.Opening.{Opening}
use Rattle.sizes.specs.declared.HeaderKind.TheVariants.{Old}
use Rattle.sizes.specs.Framing.{by_eof}
use Rattle.sizes.specs.Sizes.{frame_size_broken, payload_size_broken, sizes_broken}
use Rattle.session_rules.specs.Layouts.{header_layout}
use Rattle.session_rules.specs.Transfer.{flag_of, layer_place, need_of, rows_by, stamp_of, layer_of, header_by, reading_of}
use Rattle.session_rules.specs.declared.Reason.{Reason}
use Rattle.session_rules.specs.Turns.{turn_of, hands_of, out_of, spoilt_of, closed_of}
use Rattle.session_rules.specs.Ledger.{plus_of, timed_of, post_of, shown_of}
use Rattle.session_rules.specs.Rule50.{rule50, fill_broken, accounts_broken, counts_broken}
use Rattle.session_rules.specs.Session.{fresh, read_of, took_of, hands_out, handed_of, take_of, lost_of, close_of}
use Rattle.session_rules.specs.Call.{Call}
use Rattle.session_rules.specs.Calls.{Offer}
use Rattle.endings.specs.declared.How.{How}
use Rattle.endings.specs.declared.Ending.{Ending}
use Rattle.endings.specs.Endings.{ending_as, endings_of}
use Rattle.endings.specs.Inner.{all_told}

-- frame size 256, payload size 62: EOF framing, and with D1 clear
abbrev eof : Opening
eof = record { frame = 256; payload = 62; framing = 3; kind = Old }

abbrev no-eof : Opening
no-eof = record { frame = 256; payload = 62; framing = 1; kind = Old }

-- headers of FID 0, with a stamp (7, or 8 where later) or none, with EOF or not, of a still or not; and of FID 1, with EOF or not; each with its data
abbrev stamped : List ℕ → List ℕ
stamped d = 0x06 ∷ 0x84 ∷ 7 ∷ 0 ∷ 0 ∷ 0 ∷ d

abbrev stamped-end : List ℕ → List ℕ
stamped-end d = 0x06 ∷ 0x86 ∷ 7 ∷ 0 ∷ 0 ∷ 0 ∷ d

abbrev later-end : List ℕ → List ℕ
later-end d = 0x06 ∷ 0x86 ∷ 8 ∷ 0 ∷ 0 ∷ 0 ∷ d

abbrev still-end : List ℕ → List ℕ
still-end d = 0x02 ∷ 0xA2 ∷ d

abbrev plain : List ℕ → List ℕ
plain d = 0x02 ∷ 0x80 ∷ d

abbrev plain_end : List ℕ → List ℕ
plain_end d = 0x02 ∷ 0x82 ∷ d

abbrev other : List ℕ → List ℕ
other d = 0x02 ∷ 0x81 ∷ d

abbrev other-end : List ℕ → List ℕ
other-end d = 0x02 ∷ 0x83 ∷ d

abbrev two : List ℕ
two = 1 ∷ 2 ∷ []

abbrev three : List ℕ
three = 3 ∷ 4 ∷ 5 ∷ []

abbrev take : List ℕ → Offer
take t = Offer.take (replicate 256 0) t

-- DELIVERED: of two transfers, five bytes, and the stamp is the second's, which is the frame's first
abbrev delivered : List Ending
delivered = ending_as How.Delivered 5 (Some 7) ∷ []

pub delivered-list : endings_of eof (Call.transfer (plain two) ∷ Call.transfer (stamped-end three) ∷ []) ≡ delivered
unfolding if_else by_eof header_layout flag_of layer_place need_of rows_by stamp_of layer_of header_by reading_of
delivered-list = refl

pub delivered-told : all_told (fresh eof) (take (plain two) ∷ take (stamped-end three) ∷ []) ≡ delivered
unfolding if_else any_below frame_size_broken payload_size_broken by_eof header_layout flag_of layer_place need_of rows_by stamp_of layer_of header_by reading_of turn_of spoilt_of closed_of plus_of timed_of post_of shown_of sizes_broken fill_broken accounts_broken counts_broken rule50 read_of took_of hands_out hands_of take_of
delivered-told = refl

-- DROPPED, by a gap: five bytes with the first transfer's stamp, when its EOF comes
abbrev gapped : List Ending
gapped = ending_as (How.Dropped Reason.Gap) 5 (Some 7) ∷ []

pub gap-list : endings_of eof (Call.transfer (stamped two) ∷ Call.lost ∷ Call.transfer (plain_end three) ∷ []) ≡ gapped
unfolding if_else by_eof header_layout flag_of layer_place need_of rows_by stamp_of layer_of header_by reading_of
gap-list = refl

pub gap-told : all_told (fresh eof) (take (stamped two) ∷ Offer.lost ∷ take (plain_end three) ∷ []) ≡ gapped
unfolding if_else any_below frame_size_broken payload_size_broken by_eof header_layout flag_of layer_place need_of rows_by stamp_of layer_of header_by reading_of turn_of spoilt_of closed_of plus_of timed_of post_of shown_of sizes_broken fill_broken accounts_broken counts_broken rule50 read_of took_of hands_out hands_of take_of lost_of
gap-told = refl

-- DROPPED, by its clock: five bytes, and the stamp is the first of the two
abbrev clashed : List Ending
clashed = ending_as (How.Dropped Reason.Clock) 5 (Some 7) ∷ []

pub clock-list : endings_of eof (Call.transfer (stamped two) ∷ Call.transfer (later-end three) ∷ []) ≡ clashed
unfolding if_else by_eof header_layout flag_of layer_place need_of rows_by stamp_of layer_of header_by reading_of
clock-list = refl

pub clock-told : all_told (fresh eof) (take (stamped two) ∷ take (later-end three) ∷ []) ≡ clashed
unfolding if_else any_below frame_size_broken payload_size_broken by_eof header_layout flag_of layer_place need_of rows_by stamp_of layer_of header_by reading_of turn_of spoilt_of closed_of plus_of timed_of post_of shown_of sizes_broken fill_broken accounts_broken counts_broken rule50 read_of took_of hands_out hands_of take_of
clock-told = refl

-- A STILL, and a stray after it, which is no part of the frame; a frame begun by the other FID is under way
abbrev still : List Ending
still = ending_as How.Still 2 None ∷ []

pub still-list : endings_of eof (Call.transfer (still-end two) ∷ Call.transfer (stamped three) ∷ Call.transfer (other two) ∷ []) ≡ still
unfolding if_else by_eof header_layout flag_of layer_place need_of rows_by stamp_of layer_of header_by reading_of
still-list = refl

pub still-told : all_told (fresh eof) (take (still-end two) ∷ take (stamped three) ∷ take (other two) ∷ []) ≡ still
unfolding if_else any_below frame_size_broken payload_size_broken by_eof header_layout flag_of layer_place need_of rows_by stamp_of layer_of header_by reading_of turn_of spoilt_of closed_of plus_of timed_of post_of shown_of sizes_broken fill_broken accounts_broken counts_broken rule50 read_of took_of hands_out hands_of take_of
still-told = refl

-- CUT, the first by the other FID and the second by close; a second close is refused
abbrev cut : List Ending
cut = ending_as (How.Dropped Reason.Cut) 2 (Some 7) ∷ ending_as (How.Dropped Reason.Cut) 3 None ∷ []

pub cut_list : endings_of eof (Call.transfer (stamped two) ∷ Call.transfer (other three) ∷ Call.close ∷ []) ≡ cut
unfolding if_else by_eof header_layout flag_of layer_place need_of rows_by stamp_of layer_of header_by reading_of
cut_list = refl

pub cut-told : all_told (fresh eof) (take (stamped two) ∷ take (other three) ∷ Offer.close ∷ Offer.close ∷ []) ≡ cut
unfolding if_else any_below frame_size_broken payload_size_broken by_eof header_layout flag_of layer_place need_of rows_by stamp_of layer_of header_by reading_of turn_of spoilt_of closed_of plus_of timed_of post_of shown_of sizes_broken fill_broken accounts_broken counts_broken rule50 read_of took_of hands_out hands_of take_of close_of
cut-told = refl

-- TWO BY ONE CALL: a frame cut by the other FID, and then the transfer's own
abbrev both : List Ending
both = ending_as (How.Dropped Reason.Cut) 2 (Some 7) ∷ ending_as How.Delivered 3 None ∷ []

pub both-list : endings_of eof (Call.transfer (stamped two) ∷ Call.transfer (other-end three) ∷ []) ≡ both
unfolding if_else by_eof header_layout flag_of layer_place need_of rows_by stamp_of layer_of header_by reading_of
both-list = refl

pub both_told : all_told (fresh eof) (take (stamped two) ∷ take (other-end three) ∷ []) ≡ both
unfolding if_else any_below frame_size_broken payload_size_broken by_eof header_layout flag_of layer_place need_of rows_by stamp_of layer_of header_by reading_of turn_of spoilt_of closed_of plus_of timed_of post_of shown_of sizes_broken fill_broken accounts_broken counts_broken rule50 read_of took_of hands_out hands_of take_of
both_told = refl

-- HANDED OUT, with D1 clear: the transfer of the other FID hands the frame out, is offered again, and is under way
abbrev handed : List Ending
handed = ending_as How.Delivered 5 (Some 7) ∷ []

pub handed-list : endings_of no-eof (Call.transfer (stamped two) ∷ Call.transfer (plain three) ∷ Call.handed ∷ Call.transfer (other two) ∷ []) ≡ handed
unfolding if_else by_eof header_layout flag_of layer_place need_of rows_by stamp_of layer_of header_by reading_of
handed-list = refl

pub handed-told : all_told (fresh no-eof) (take (stamped two) ∷ take (plain three) ∷ take (other two) ∷ take (other two) ∷ []) ≡ handed
unfolding if_else any_below frame_size_broken payload_size_broken by_eof header_layout flag_of layer_place need_of rows_by stamp_of layer_of header_by reading_of turn_of spoilt_of closed_of plus_of timed_of post_of shown_of sizes_broken fill_broken accounts_broken counts_broken rule50 read_of took_of hands_out hands_of take_of handed_of out_of
handed-told = refl
