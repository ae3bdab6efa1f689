-- 7. The ledger sample of document 01, about the rule and about the session; and samples of document 02, Two, Ten and Twelve.
use Rattle.std.specs.Prelude.{None, Some}
use Rattle.session_rules.specs.Options.{Layer}
use Prim.Native.Nat.{ℕ}
use mathlib.Core.Path.{◌≡◌, refl}
use mathlib.Core.Bool.{cond, false}
use mathlib.Core.List.{List, [], ◌∷◌, ◌++◌, map}
use lib.ListN.{replicate}
use Rattle.rules.specs.IfElse.{if_else}
use Rattle.rules.specs.Numbered.{any_below}
use Rattle.sizes.specs.Sizes.{frame_size_broken, payload_size_broken, sizes_broken}
use Rattle.sizes.specs.declared.Opening.{Opening}
use Rattle.sizes.specs.declared.HeaderKind.TheVariants.{Old, Vp8}
use Rattle.sizes.specs.Framing.{by_eof}
use Rattle.session_rules.specs.declared.Reason.{Reason}
use Rattle.session_rules.specs.declared.Fate.{Fate}
use Rattle.session_rules.specs.declared.Answer.{Answer}
use Rattle.books.specs.Answer.{answer_of, with, hands, outcome_of, ending_of}
use Rattle.session_rules.specs.Layouts.{header_layout}
use Rattle.session_rules.specs.Transfer.{flag_of, layer_place, need_of, rows_by, stamp_of, layer_of, header_by, reading_of}
use Rattle.session_rules.specs.Ledger.{plus_of, timed_of, post_of, shown_of}
use Rattle.session_rules.specs.declared.Session.{Session}
use Rattle.session_rules.specs.declared.Outcome.{Outcome}
use Rattle.session_rules.specs.Refusals.{ledger_of}
use Rattle.session_rules.specs.Session.{fresh, read_of, took_of, hands_out, handed_of, take_of, lost_of, close_of}
use Rattle.books.specs.Rule.{entries, numbers_of}
use Rattle.session_rules.specs.Turns.{turn_of, hands_of, out_of, spoilt_of, closed_of}
use Rattle.session_rules.specs.Rule50.{rule50, fill_broken, accounts_broken, counts_broken}
use Rattle.session_rules.specs.Call.{Ask, Call, heard_of}
use Rattle.session_rules.specs.Calls.{Offer, after, taken, offer_with}

-- frame size 256, payload size 62
abbrev pub opening : Opening
opening = record { frame = 256; payload = 62; framing = 3; kind = Old }

abbrev pub transfers : List (List ℕ)
transfers =
    (0x02 ∷ 0x80 ∷ 0xAA ∷ 0xBB ∷ [])
    ∷ (0x02 ∷ 0x82 ∷ 0xCC ∷ [])
    ∷ (0x02 ∷ 0x82 ∷ 0xDD ∷ [])
    ∷ (0x02 ∷ 0x81 ∷ 0xEE ∷ [])
    ∷ (0x02 ∷ 0x80 ∷ 0x11 ∷ [])
    ∷ (0x02 ∷ [])
    ∷ (0x02 ∷ 0x82 ∷ 0x22 ∷ [])
    ∷ []

-- what is printed: delivered, gap, error, clock, long, cut, empty, still, mixed, under way, stray, unreadable, headers; lost, idle, ticks, backward, untimed
abbrev pub printed : List ℕ
printed = 1 ∷ 3 ∷ 1 ∷ 2 ∷ 0 ∷ 0 ∷ 0 ∷ 0 ∷ 0 ∷ 0 ∷ 1 ∷ 1 ∷ 0 ∷ 0 ∷ 0 ∷ 0 ∷ 0 ∷ 0 ∷ 0 ∷ 0 ∷ 1 ∷ 1 ∷ 1 ∷ 1 ∷ 6 ∷ 12 ∷ 0 ∷ 0 ∷ 0 ∷ 0 ∷ 1 ∷ []

pub by-rule : numbers_of (entries opening (map Call.transfer transfers)) ≡ printed
unfolding if_else by_eof header_layout flag_of layer_place need_of rows_by stamp_of layer_of header_by reading_of
by-rule = refl

pub by-session : (ledger_of (after (fresh opening) (map (Offer.take (replicate 256 0)) transfers))).numbers ≡ printed
unfolding if_else any_below frame_size_broken payload_size_broken by_eof header_layout flag_of layer_place need_of rows_by stamp_of layer_of header_by reading_of turn_of spoilt_of closed_of plus_of timed_of post_of shown_of sizes_broken fill_broken accounts_broken counts_broken rule50 read_of took_of hands_out hands_of take_of
by-session = refl

pub all-taken : taken (fresh opening) (map (Offer.take (replicate 256 0)) transfers) ≡ map Call.transfer transfers
unfolding if_else any_below frame_size_broken payload_size_broken by_eof header_layout flag_of layer_place need_of rows_by stamp_of layer_of header_by reading_of turn_of spoilt_of closed_of plus_of timed_of post_of shown_of sizes_broken fill_broken accounts_broken counts_broken rule50 read_of took_of hands_out hands_of take_of
all-taken = refl

-- and what each of its transfers answers
abbrev answers_from : List Call → List (List ℕ) → List Answer
answers_from cs [] = []
answers_from cs (t ∷ ts) = answer_of opening cs t ∷ answers_from (with cs t) ts

abbrev only : Fate → Answer
only f = record { ended = None; fate = f }

pub answers-by-rule : answers_from [] transfers
    ≡ only Fate.Kept
    ∷ only (Fate.Delivered (record { len = 3; stamp = None; layer = None }))
    ∷ only Fate.Stray
    ∷ only Fate.Kept
    ∷ record { ended = Some Reason.Cut; fate = Fate.Kept }
    ∷ only (Fate.Unreadable 61)
    ∷ only (Fate.Dropped Reason.Gap)
    ∷ []
unfolding if_else by_eof header_layout flag_of layer_place need_of rows_by stamp_of layer_of header_by reading_of
answers-by-rule = refl

-- Stills among the film (document 02, Ten): the step of 32 goes over a stamped still, which is in its own account; then a frame that is mixed.
abbrev pub asked-film : List Ask
asked-film =
    Ask.transfer (0x06 ∷ 0x86 ∷ 0xF0 ∷ 0xFF ∷ 0xFF ∷ 0xFF ∷ 0x61 ∷ 0x62 ∷ 0x63 ∷ [])
    ∷ Ask.transfer (0x06 ∷ 0xA7 ∷ 0x07 ∷ 0x00 ∷ 0x00 ∷ 0x00 ∷ 0x73 ∷ [])
    ∷ Ask.transfer (0x02 ∷ 0x82 ∷ 0x78 ∷ 0x79 ∷ [])
    ∷ Ask.transfer (0x06 ∷ 0x87 ∷ 0x10 ∷ 0x00 ∷ 0x00 ∷ 0x00 ∷ 0x7A ∷ [])
    ∷ Ask.transfer (0x06 ∷ 0x86 ∷ 0x0B ∷ 0x00 ∷ 0x00 ∷ 0x00 ∷ 0x7A ∷ [])
    ∷ Ask.lost
    ∷ Ask.transfer (0x06 ∷ 0x87 ∷ 0x03 ∷ 0x00 ∷ 0x00 ∷ 0x00 ∷ 0x71 ∷ [])
    ∷ Ask.transfer (0x06 ∷ 0x86 ∷ 0x0B ∷ 0x00 ∷ 0x00 ∷ 0x00 ∷ 0x7A ∷ 0x7A ∷ [])
    ∷ Ask.transfer (0x02 ∷ 0x81 ∷ 0x6D ∷ [])
    ∷ Ask.transfer (0x02 ∷ 0xA3 ∷ 0x6E ∷ [])
    ∷ []

abbrev pub among-film : List Call
among-film = map heard_of asked-film

abbrev pub billed-apart : List ℕ
billed-apart =
    5 ∷ 9 ∷ 1 ∷ 1 ∷ 0 ∷ 0 ∷ 0 ∷ 0 ∷ 0 ∷ 0 ∷ 0 ∷ 0 ∷ 0 ∷ 0 ∷ 1 ∷ 1 ∷ 1 ∷ 2 ∷ 0 ∷ 0 ∷ 0 ∷ 0 ∷ 0 ∷ 0 ∷ 9 ∷ 42 ∷ 1 ∷ 0 ∷ 32 ∷ 1 ∷ 1 ∷ []

pub stills-by-rule : numbers_of (entries opening among-film) ≡ billed-apart
unfolding if_else by_eof header_layout flag_of layer_place need_of rows_by stamp_of layer_of header_by reading_of
stills-by-rule = refl

pub stills-by-session : (ledger_of (after (fresh opening) (map (offer_with (replicate 256 0)) asked-film))).numbers ≡ billed-apart
unfolding if_else any_below frame_size_broken payload_size_broken by_eof header_layout flag_of layer_place need_of rows_by stamp_of layer_of header_by reading_of turn_of spoilt_of closed_of plus_of timed_of post_of shown_of sizes_broken fill_broken accounts_broken counts_broken rule50 read_of took_of hands_out hands_of take_of lost_of
stills-by-session = refl

-- what its still, its mixed frame and an empty still answer
pub still-answer : answer_of opening [] (0x06 ∷ 0xA7 ∷ 0x07 ∷ 0x00 ∷ 0x00 ∷ 0x00 ∷ 0x73 ∷ []) ≡ only (Fate.Still (record { len = 1; stamp = Some 7; layer = None }))
unfolding if_else by_eof header_layout flag_of layer_place need_of rows_by stamp_of layer_of header_by reading_of
still-answer = refl

pub mixed-answer : answer_of opening (Call.transfer (0x02 ∷ 0x81 ∷ 0x6D ∷ []) ∷ []) (0x02 ∷ 0xA3 ∷ 0x6E ∷ []) ≡ only (Fate.Dropped Reason.Mixed)
unfolding if_else by_eof header_layout flag_of layer_place need_of rows_by stamp_of layer_of header_by reading_of
mixed-answer = refl

pub empty-still : answer_of opening [] (0x02 ∷ 0xA2 ∷ []) ≡ only (Fate.Dropped Reason.Empty)
unfolding if_else by_eof header_layout flag_of layer_place need_of rows_by stamp_of layer_of header_by reading_of
empty-still = refl

-- A camera that sends no EOF (document 02, Two): frame size 256, payload size 62, framing 1, so that D1 is clear. Two frames are handed out, each before a transfer that is
-- offered again; then a frame with a gap before it, an empty one, and one that close cuts. EOF is ignored.
abbrev pub no-eof : Opening
no-eof = record { frame = 256; payload = 62; framing = 1; kind = Old }

abbrev pub asked : List Ask
asked =
    Ask.transfer (0x02 ∷ 0x80 ∷ 0xAA ∷ [])
    ∷ Ask.transfer (0x02 ∷ 0x82 ∷ 0xBB ∷ [])
    ∷ Ask.transfer (0x02 ∷ 0x81 ∷ 0xCC ∷ [])
    ∷ Ask.transfer (0x02 ∷ 0x81 ∷ 0xCC ∷ [])
    ∷ Ask.transfer (0x02 ∷ 0x80 ∷ 0xDD ∷ [])
    ∷ Ask.lost
    ∷ Ask.transfer (0x02 ∷ 0x80 ∷ 0xDD ∷ [])
    ∷ Ask.transfer (0x02 ∷ 0x80 ∷ 0x11 ∷ [])
    ∷ Ask.transfer (0x02 ∷ 0x81 ∷ [])
    ∷ Ask.transfer (0x02 ∷ 0x80 ∷ [])
    ∷ Ask.transfer (0x02 ∷ 0x80 ∷ 0xEE ∷ [])
    ∷ Ask.close
    ∷ []

-- the list that comes of it
abbrev pub listed : List Call
listed =
    Call.transfer (0x02 ∷ 0x80 ∷ 0xAA ∷ [])
    ∷ Call.transfer (0x02 ∷ 0x82 ∷ 0xBB ∷ [])
    ∷ Call.handed
    ∷ Call.transfer (0x02 ∷ 0x81 ∷ 0xCC ∷ [])
    ∷ Call.handed
    ∷ Call.lost
    ∷ Call.transfer (0x02 ∷ 0x80 ∷ 0xDD ∷ [])
    ∷ Call.transfer (0x02 ∷ 0x80 ∷ 0x11 ∷ [])
    ∷ Call.transfer (0x02 ∷ 0x81 ∷ [])
    ∷ Call.transfer (0x02 ∷ 0x80 ∷ [])
    ∷ Call.transfer (0x02 ∷ 0x80 ∷ 0xEE ∷ [])
    ∷ Call.close
    ∷ []

-- delivered 2 3, gap 1 2, cut 1 1, empty 1 0, headers 8 16, lost 1, untimed 2
abbrev pub by-fid : List ℕ
by-fid = 2 ∷ 3 ∷ 1 ∷ 2 ∷ 0 ∷ 0 ∷ 0 ∷ 0 ∷ 0 ∷ 0 ∷ 1 ∷ 1 ∷ 1 ∷ 0 ∷ 0 ∷ 0 ∷ 0 ∷ 0 ∷ 0 ∷ 0 ∷ 0 ∷ 0 ∷ 0 ∷ 0 ∷ 8 ∷ 16 ∷ 1 ∷ 0 ∷ 0 ∷ 0 ∷ 2 ∷ []

pub no-eof-by-rule : numbers_of (entries no-eof listed) ≡ by-fid
unfolding if_else by_eof header_layout flag_of layer_place need_of rows_by stamp_of layer_of header_by reading_of
no-eof-by-rule = refl

pub no-eof-by-session : (ledger_of (after (fresh no-eof) (map (offer_with (replicate 256 0)) asked))).numbers ≡ by-fid
unfolding if_else any_below frame_size_broken payload_size_broken by_eof header_layout flag_of layer_place need_of rows_by stamp_of layer_of header_by reading_of turn_of spoilt_of closed_of plus_of timed_of post_of shown_of sizes_broken fill_broken accounts_broken counts_broken rule50 read_of took_of hands_out hands_of handed_of out_of take_of lost_of close_of
no-eof-by-session = refl

pub no-eof-listed : taken (fresh no-eof) (map (offer_with (replicate 256 0)) asked) ≡ listed
unfolding if_else any_below frame_size_broken payload_size_broken by_eof header_layout flag_of layer_place need_of rows_by stamp_of layer_of header_by reading_of turn_of spoilt_of closed_of plus_of timed_of post_of shown_of sizes_broken fill_broken accounts_broken counts_broken rule50 read_of took_of hands_out hands_of handed_of out_of take_of lost_of close_of
no-eof-listed = refl

-- what each take comes to by the rule, and what close answers
abbrev outcomes_from : Opening → List Call → List Ask → List Outcome
outcomes_from o cs [] = []
outcomes_from o cs (Ask.transfer t ∷ more) = outcome_of o cs t ∷ outcomes_from o (cs ++ (cond (hands o cs t) Call.handed (Call.transfer t) ∷ [])) more
outcomes_from o cs (Ask.lost ∷ more) = outcomes_from o (cs ++ (Call.lost ∷ [])) more
outcomes_from o cs (Ask.close ∷ more) = []

abbrev kept : Outcome
kept = Outcome.Taken (only Fate.Kept)

abbrev handed-film : ℕ → Outcome
handed-film n = Outcome.Handed (record { still = false; delivery = record { len = n; stamp = None; layer = None } })

abbrev kept-after : Reason → Outcome
kept-after w = Outcome.Taken (record { ended = Some w; fate = Fate.Kept })

pub no-eof-outcomes : outcomes_from no-eof [] asked
    ≡ kept
    ∷ kept
    ∷ handed-film 2
    ∷ kept
    ∷ handed-film 1
    ∷ kept
    ∷ kept
    ∷ kept-after Reason.Gap
    ∷ kept-after Reason.Empty
    ∷ kept
    ∷ []
unfolding if_else by_eof header_layout flag_of layer_place need_of rows_by stamp_of layer_of header_by reading_of
no-eof-outcomes = refl

pub no-eof-close : ending_of no-eof (Call.transfer (0x02 ∷ 0x80 ∷ 0xEE ∷ []) ∷ []) ≡ Some Reason.Cut
unfolding if_else by_eof header_layout flag_of layer_place need_of rows_by stamp_of layer_of header_by reading_of
no-eof-close = refl

-- VP8 cameras (document 02, Twelve): a frame's layer is that of its last transfer that has one. Each transfer has the stamp 16; 84 announces a layer, 02 more is EOF.
abbrev pub vp8 : ℕ → Opening
vp8 framing = record { frame = 256; payload = 62; framing = framing; kind = Vp8 }

abbrev sent : ℕ → ℕ → List ℕ → Ask
sent len flags rest = Ask.transfer (len ∷ flags ∷ 0x00 ∷ 0x80 ∷ 0x10 ∷ 0x00 ∷ 0x00 ∷ 0x00 ∷ rest)

-- what each take comes to by the session
abbrev outcomes_by : Session → List Ask → List Outcome
outcomes_by s [] = []
outcomes_by s (Ask.transfer t ∷ more) = (take_of s 256 t).outcome ∷ outcomes_by (take_of s 256 t).session more
outcomes_by s (Ask.lost ∷ more) = outcomes_by (lost_of s).session more
outcomes_by s (Ask.close ∷ more) = []

abbrev delivered : ℕ → Layer → Outcome
delivered n y = Outcome.Taken (only (Fate.Delivered (record { len = n; stamp = Some 16; layer = y })))

-- the first transfer has a layer, the second none, the last another
abbrev three-sent : List Ask
three-sent = sent 0x0A 0x84 (0x34 ∷ 0x12 ∷ 0xAA ∷ []) ∷ sent 0x08 0x04 (0xBB ∷ []) ∷ sent 0x0A 0x86 (0x78 ∷ 0x56 ∷ 0xCC ∷ []) ∷ []

pub last-layer-by-rule : outcomes_from (vp8 3) [] three-sent ≡ kept ∷ kept ∷ delivered 3 (Some 22136) ∷ []
unfolding if_else by_eof header_layout flag_of layer_place need_of rows_by stamp_of layer_of header_by reading_of
last-layer-by-rule = refl

pub last-layer-by-session : outcomes_by (fresh (vp8 3)) three-sent ≡ kept ∷ kept ∷ delivered 3 (Some 22136) ∷ []
unfolding if_else any_below frame_size_broken payload_size_broken by_eof header_layout flag_of layer_place need_of rows_by stamp_of layer_of header_by reading_of turn_of spoilt_of closed_of plus_of timed_of post_of shown_of sizes_broken fill_broken accounts_broken counts_broken rule50 read_of took_of hands_out hands_of handed_of out_of take_of lost_of close_of
last-layer-by-session = refl

-- only the first has one
abbrev two-sent : List Ask
two-sent = sent 0x0A 0x84 (0x34 ∷ 0x12 ∷ 0xAA ∷ []) ∷ sent 0x08 0x06 (0xBB ∷ []) ∷ []

pub only-layer-by-rule : outcomes_from (vp8 3) [] two-sent ≡ kept ∷ delivered 2 (Some 4660) ∷ []
unfolding if_else by_eof header_layout flag_of layer_place need_of rows_by stamp_of layer_of header_by reading_of
only-layer-by-rule = refl

pub only-layer-by-session : outcomes_by (fresh (vp8 3)) two-sent ≡ kept ∷ delivered 2 (Some 4660) ∷ []
unfolding if_else any_below frame_size_broken payload_size_broken by_eof header_layout flag_of layer_place need_of rows_by stamp_of layer_of header_by reading_of turn_of spoilt_of closed_of plus_of timed_of post_of shown_of sizes_broken fill_broken accounts_broken counts_broken rule50 read_of took_of hands_out hands_of handed_of out_of take_of lost_of close_of
only-layer-by-session = refl

-- D5 is set in one transfer and clear in the other: delivered, no still and no mixed
abbrev intra-sent : List Ask
intra-sent = sent 0x08 0x24 (0xAA ∷ []) ∷ sent 0x08 0x06 (0xBB ∷ []) ∷ []

pub intra-frame-by-rule : outcomes_from (vp8 3) [] intra-sent ≡ kept ∷ delivered 2 None ∷ []
unfolding if_else by_eof header_layout flag_of layer_place need_of rows_by stamp_of layer_of header_by reading_of
intra-frame-by-rule = refl

pub intra-frame-by-session : outcomes_by (fresh (vp8 3)) intra-sent ≡ kept ∷ delivered 2 None ∷ []
unfolding if_else any_below frame_size_broken payload_size_broken by_eof header_layout flag_of layer_place need_of rows_by stamp_of layer_of header_by reading_of turn_of spoilt_of closed_of plus_of timed_of post_of shown_of sizes_broken fill_broken accounts_broken counts_broken rule50 read_of took_of hands_out hands_of handed_of out_of take_of lost_of close_of
intra-frame-by-session = refl

-- framing 1, so that D1 is clear: the frame is handed out with its layer, before a transfer that is offered again
abbrev turned-sent : List Ask
turned-sent =
    sent 0x0A 0x84 (0x34 ∷ 0x12 ∷ 0xAA ∷ []) ∷ sent 0x08 0x04 (0xBB ∷ []) ∷ sent 0x08 0x05 (0xCC ∷ []) ∷ sent 0x08 0x05 (0xCC ∷ []) ∷ []

abbrev handed-layer : Outcome
handed-layer = Outcome.Handed (record { still = false; delivery = record { len = 2; stamp = Some 16; layer = Some 4660 } })

pub handed-layer-by-rule : outcomes_from (vp8 1) [] turned-sent ≡ kept ∷ kept ∷ handed-layer ∷ kept ∷ []
unfolding if_else by_eof header_layout flag_of layer_place need_of rows_by stamp_of layer_of header_by reading_of
handed-layer-by-rule = refl

pub handed-layer-by-session : outcomes_by (fresh (vp8 1)) turned-sent ≡ kept ∷ kept ∷ handed-layer ∷ kept ∷ []
unfolding if_else any_below frame_size_broken payload_size_broken by_eof header_layout flag_of layer_place need_of rows_by stamp_of layer_of header_by reading_of turn_of spoilt_of closed_of plus_of timed_of post_of shown_of sizes_broken fill_broken accounts_broken counts_broken rule50 read_of took_of hands_out hands_of handed_of out_of take_of lost_of close_of
handed-layer-by-session = refl
