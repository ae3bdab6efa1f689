-- Cases by computation: the pair of sessions that shows why the first transfer is offered until it is taken; one with D1 set; and, of each premise, two sessions that differ where it is left out.
use Rattle.std.specs.Prelude.{None, Some}
use Rattle.session_rules.specs.Options.{Ended}
use Prim.Native.Nat.{ℕ}
use mathlib.Core.Path.{◌≡◌, refl}
use mathlib.Core.Bool.{false}
use mathlib.Core.List.{List, [], ◌∷◌, ◌++◌, map}
use lib.ListN.{replicate}
use Rattle.rules.specs.IfElse.{if_else}
use Rattle.rules.specs.Numbered.{any_below}
use Rattle.sizes.specs.Sizes.{frame_size_broken, payload_size_broken, sizes_broken}
use Rattle.sizes.specs.declared.Opening.{Opening}
use Rattle.sizes.specs.declared.HeaderKind.{HeaderKind}
use Rattle.sizes.specs.declared.HeaderKind.TheVariants.{Old, Vp8}
use Rattle.sizes.specs.Framing.{by_eof}
use Rattle.session_rules.specs.Layouts.{header_layout}
use Rattle.session_rules.specs.Transfer.{flag_of, layer_place, need_of, rows_by, stamp_of, layer_of, header_by, header_of, reading_of}
use Rattle.session_rules.specs.declared.Reason.TheVariants.{Gap, Error, Long, Cut}
use Rattle.session_rules.specs.declared.Fate.{Fate}
use Rattle.session_rules.specs.Turns.{turn_of, hands_of, out_of, spoilt_of, closed_of}
use Rattle.session_rules.specs.declared.Account.{Account}
use Rattle.session_rules.specs.Ledger.{count_of, plus_of, timed_of, post_of, shown_of}
use Rattle.session_rules.specs.Rule50.{rule50, fill_broken, accounts_broken, counts_broken}
use Rattle.session_rules.specs.declared.Outcome.{Outcome}
use Rattle.session_rules.specs.Session.{read_of, took_of, took_buffer, hands_out, handed_of, take_of, buffer_of, lost_of}
use Rattle.session_rules.specs.Call.{Ask}
use Rattle.session_rules.specs.Calls.{Offer}
use Rattle.books.specs.Alike.{At, onward, Said, said_of, way_of, hears}
use Rattle.books.proofs.Openings.{alike-itself}
use Rattle.behind.specs.Behind.{reached, begun, Behind}
use Rattle.behind.specs.Added.{billed, NeverCosts}
use Rattle.behind.proofs.Theorems.{damage-behind, never-costs}

abbrev room : List ℕ
room = replicate 256 0

abbrev opened : ℕ → ℕ → ℕ → HeaderKind → Opening
opened frame payload framing kind = record { frame = frame; payload = payload; framing = framing; kind = kind }

-- D1 clear, and set
abbrev by_fid : Opening
by_fid = opened 256 62 1 Old

abbrev eof : Opening
eof = opened 256 62 3 Old

abbrev taking : List (List ℕ) → List Offer
taking ts = map (Offer.take room) ts

abbrev after : Opening → List (List ℕ) → At
after o ts = reached o (taking ts) room

-- what is said of a transfer that is taken, of one that hands a frame out, and of one that is taken and ends a frame
abbrev told : Ended → Fate → Said
told e f = Said.took (Outcome.Taken (record { ended = e; fate = f }))

abbrev fate : Fate → Said
fate f = told None f

abbrev delivered : ℕ → Fate
delivered n = Fate.Delivered (record { len = n; stamp = None; layer = None })

abbrev says : At → List ℕ → Said
says x t = said_of x (Ask.transfer t)

-- ---- the pair, D1 clear: A after 02 80 AA, B after 02 C0 AA (an error); then 02 81 CC
abbrev good : List ℕ
good = 0x02 ∷ 0x80 ∷ 0xAA ∷ []

abbrev bad : List ℕ
bad = 0x02 ∷ 0xC0 ∷ 0xAA ∷ []

abbrev turn : List ℕ
turn = 0x02 ∷ 0x81 ∷ 0xCC ∷ []

abbrev A : At
A = after by_fid (good ∷ [])

abbrev B : At
B = after by_fid (bad ∷ [])

-- A hands its frame out, and is offered the transfer again; B drops its frame and takes the transfer at once. From there on they are alike, also where it is offered once more.
pair : Behind A B turn (Ask.transfer turn ∷ Ask.lost ∷ Ask.close ∷ [])
unfolding if_else any_below frame_size_broken payload_size_broken by_eof header_layout flag_of layer_place need_of rows_by stamp_of layer_of header_by reading_of turn_of spoilt_of closed_of plus_of timed_of post_of shown_of sizes_broken fill_broken accounts_broken counts_broken rule50 read_of took_of took_buffer hands_out hands_of out_of handed_of take_of buffer_of lost_of
pair =
    damage-behind by_fid by_fid (alike-itself by_fid) false (taking (good ∷ [])) (taking (bad ∷ [])) room room turn (header_of by_fid turn) (Ask.transfer turn ∷ Ask.lost ∷ Ask.close ∷ [])
    (record { fid = refl; clear = refl }) (record { fid = refl; clear = refl }) refl refl (refl, (refl, (refl, (refl, (refl, tt))))) (refl, (refl, (refl, (refl, tt))))

its-bytes : (way_of (begun A turn) ≡ 0xCC ∷ []) × (way_of (begun B turn) ≡ 0xCC ∷ [])
unfolding if_else any_below frame_size_broken payload_size_broken by_eof header_layout flag_of layer_place need_of rows_by stamp_of layer_of header_by reading_of turn_of spoilt_of closed_of plus_of timed_of post_of shown_of sizes_broken fill_broken accounts_broken counts_broken rule50 read_of took_of took_buffer hands_out hands_of out_of handed_of take_of buffer_of lost_of
its-bytes = (refl, refl)

-- with the same offers to both it would be false: twice 02 81 CC leaves one byte in A's frame and two in B's
abbrev twice : At → At
twice x = onward (onward x (Ask.transfer turn)) (Ask.transfer turn)

offered-alike : (way_of (twice A) ≡ 0xCC ∷ []) × (way_of (twice B) ≡ 0xCC ∷ 0xCC ∷ [])
unfolding if_else any_below frame_size_broken payload_size_broken by_eof header_layout flag_of layer_place need_of rows_by stamp_of layer_of header_by reading_of turn_of spoilt_of closed_of plus_of timed_of post_of shown_of sizes_broken fill_broken accounts_broken counts_broken rule50 read_of took_of took_buffer hands_out hands_of out_of handed_of take_of buffer_of lost_of
offered-alike = (refl, refl)

-- ---- D1 set: a frame that lost a transfer, and one that was delivered; then 02 83 CC, which is delivered in both
abbrev damaged : List Offer
damaged = Offer.take room good ∷ Offer.lost ∷ Offer.take room (0x02 ∷ 0x80 ∷ 0xBB ∷ []) ∷ []

abbrev whole : List ℕ
whole = 0x02 ∷ 0x82 ∷ 0xAA ∷ []

abbrev last : List ℕ
last = 0x02 ∷ 0x83 ∷ 0xCC ∷ []

with-eof : Behind (reached eof damaged room) (after eof (whole ∷ [])) last []
unfolding if_else any_below frame_size_broken payload_size_broken by_eof header_layout flag_of layer_place need_of rows_by stamp_of layer_of header_by reading_of turn_of spoilt_of closed_of plus_of timed_of post_of shown_of sizes_broken fill_broken accounts_broken counts_broken rule50 read_of took_of took_buffer hands_out hands_of out_of handed_of take_of buffer_of lost_of
with-eof =
    damage-behind eof eof (alike-itself eof) false damaged (taking (whole ∷ [])) room room last (header_of eof last) [] (record { fid = refl; clear = refl }) (record { fid = refl; clear = refl }) refl
    refl (refl, tt) (refl, tt)

what-is-said : (says (reached eof damaged room) last ≡ told (Some Gap) (delivered 1)) × (says (after eof (whole ∷ [])) last ≡ fate (delivered 1))
unfolding if_else any_below frame_size_broken payload_size_broken by_eof header_layout flag_of layer_place need_of rows_by stamp_of layer_of header_by reading_of turn_of spoilt_of closed_of plus_of timed_of post_of shown_of sizes_broken fill_broken accounts_broken counts_broken rule50 read_of took_of took_buffer hands_out hands_of out_of handed_of take_of buffer_of lost_of
what-is-said = (refl, refl)

-- against a session that has met nothing: one frame delivered by it, none by the other before and one after
costs-nothing : NeverCosts eof damaged (reached eof damaged room) (reached eof [] room) last []
unfolding if_else any_below frame_size_broken payload_size_broken by_eof header_layout flag_of layer_place need_of rows_by stamp_of layer_of header_by reading_of turn_of spoilt_of closed_of plus_of timed_of post_of shown_of sizes_broken fill_broken accounts_broken counts_broken rule50 read_of took_of took_buffer hands_out hands_of out_of handed_of take_of buffer_of lost_of
costs-nothing = never-costs eof false damaged room room last (header_of eof last) [] (record { fid = refl; clear = refl }) refl refl (refl, tt) (refl, tt)

in-numbers : (billed eof damaged count_of Account.Delivered ≡ 0) × (billed eof (taking (last ∷ [])) count_of Account.Delivered ≡ 1)
    × (billed eof (damaged ++ taking (last ∷ [])) count_of Account.Delivered ≡ 1)
unfolding if_else any_below frame_size_broken payload_size_broken by_eof header_layout flag_of layer_place need_of rows_by stamp_of layer_of header_by reading_of turn_of spoilt_of closed_of plus_of timed_of post_of shown_of sizes_broken fill_broken accounts_broken counts_broken rule50 read_of took_of took_buffer hands_out hands_of out_of handed_of take_of buffer_of lost_of
in-numbers = (refl, refl, refl)

-- of the framing byte D1 is enough: 3 and 0xFE
other-bits : Behind (after eof (whole ∷ [])) (after (opened 256 62 0xFE Old) (whole ∷ [])) last []
unfolding if_else any_below frame_size_broken payload_size_broken by_eof header_layout flag_of layer_place need_of rows_by stamp_of layer_of header_by reading_of turn_of spoilt_of closed_of plus_of timed_of post_of shown_of sizes_broken fill_broken accounts_broken counts_broken rule50 read_of took_of took_buffer hands_out hands_of out_of handed_of take_of buffer_of lost_of
other-bits =
    damage-behind eof (opened 256 62 0xFE Old) (record { frame = refl; payload = refl; framing = refl; kind = refl }) false (taking (whole ∷ [])) (taking (whole ∷ [])) room room last
    (header_of eof last) [] (record { fid = refl; clear = refl }) (record { fid = refl; clear = refl }) refl refl (refl, tt) (refl, tt)

-- ---- EACH PREMISE IS NEEDED: two sessions that meet all the others
-- something lost since: a gap of the next frame
without-clear : (says (after eof (good ∷ [])) last ≡ told (Some Cut) (delivered 1))
    × (says (reached eof (Offer.take room good ∷ Offer.lost ∷ []) room) last ≡ told (Some Gap) (Fate.Dropped Gap))
unfolding if_else any_below frame_size_broken payload_size_broken by_eof header_layout flag_of layer_place need_of rows_by stamp_of layer_of header_by reading_of turn_of spoilt_of closed_of plus_of timed_of post_of shown_of sizes_broken fill_broken accounts_broken counts_broken rule50 read_of took_of took_buffer hands_out hands_of out_of handed_of take_of buffer_of lost_of
without-clear = (refl, refl)

-- the last readable transfers of different FIDs: one frame begins, the other goes on
without-fid : (says (after eof (good ∷ [])) last ≡ told (Some Cut) (delivered 1)) × (says (after eof ((0x02 ∷ 0x81 ∷ 0xAA ∷ []) ∷ [])) last ≡ fate (delivered 2))
unfolding if_else any_below frame_size_broken payload_size_broken by_eof header_layout flag_of layer_place need_of rows_by stamp_of layer_of header_by reading_of turn_of spoilt_of closed_of plus_of timed_of post_of shown_of sizes_broken fill_broken accounts_broken counts_broken rule50 read_of took_of took_buffer hands_out hands_of out_of handed_of take_of buffer_of lost_of
without-fid = (refl, refl)

-- a first transfer of the same FID: one joins its frame, the other is stray
without_other : (says (after eof (good ∷ [])) good ≡ fate Fate.Kept) × (says (after eof (whole ∷ [])) good ≡ fate Fate.Stray)
unfolding if_else any_below frame_size_broken payload_size_broken by_eof header_layout flag_of layer_place need_of rows_by stamp_of layer_of header_by reading_of turn_of spoilt_of closed_of plus_of timed_of post_of shown_of sizes_broken fill_broken accounts_broken counts_broken rule50 read_of took_of took_buffer hands_out hands_of out_of handed_of take_of buffer_of lost_of
without_other = (refl, refl)

-- other sizes: too long for the frame, too long for a transfer
abbrev two : List ℕ
two = 0x02 ∷ 0x83 ∷ 0xCC ∷ 0xDD ∷ []

without-frame-size : (says (after eof (whole ∷ [])) two ≡ fate (delivered 2)) × (says (after (opened 1 62 3 Old) (whole ∷ [])) two ≡ fate (Fate.Dropped Long))
unfolding if_else any_below frame_size_broken payload_size_broken by_eof header_layout flag_of layer_place need_of rows_by stamp_of layer_of header_by reading_of turn_of spoilt_of closed_of plus_of timed_of post_of shown_of sizes_broken fill_broken accounts_broken counts_broken rule50 read_of took_of took_buffer hands_out hands_of out_of handed_of take_of buffer_of lost_of
without-frame-size = (refl, refl)

without-payload-size : says (after (opened 256 3 3 Old) (whole ∷ [])) two ≡ fate (Fate.Unreadable 62)
unfolding if_else any_below frame_size_broken payload_size_broken by_eof header_layout flag_of layer_place need_of rows_by stamp_of layer_of header_by reading_of turn_of spoilt_of closed_of plus_of timed_of post_of shown_of sizes_broken fill_broken accounts_broken counts_broken rule50 read_of took_of took_buffer hands_out hands_of out_of handed_of take_of buffer_of lost_of
without-payload-size = refl

-- D1 clear: its frame is not ended by EOF
without-framing : (says (after eof (bad ∷ [])) last ≡ told (Some Error) (delivered 1)) × (says (after by_fid (bad ∷ [])) last ≡ told (Some Error) Fate.Kept)
unfolding if_else any_below frame_size_broken payload_size_broken by_eof header_layout flag_of layer_place need_of rows_by stamp_of layer_of header_by reading_of turn_of spoilt_of closed_of plus_of timed_of post_of shown_of sizes_broken fill_broken accounts_broken counts_broken rule50 read_of took_of took_buffer hands_out hands_of out_of handed_of take_of buffer_of lost_of
without-framing = (refl, refl)

-- the other kind of header: the same bytes are unreadable
without-kind : says (after (opened 256 62 3 Vp8) ((0x08 ∷ 0x06 ∷ 0x00 ∷ 0x80 ∷ 0x00 ∷ 0x00 ∷ 0x00 ∷ 0x00 ∷ 0xAA ∷ []) ∷ [])) last ≡ fate (Fate.Unreadable 61)
unfolding if_else any_below frame_size_broken payload_size_broken by_eof header_layout flag_of layer_place need_of rows_by stamp_of layer_of header_by reading_of turn_of spoilt_of closed_of plus_of timed_of post_of shown_of sizes_broken fill_broken accounts_broken counts_broken rule50 read_of took_of took_buffer hands_out hands_of out_of handed_of take_of buffer_of lost_of
without-kind = refl

-- a buffer that somebody else writes: the frame's earlier byte is another
abbrev rewritten : At → At
rewritten x = record { session = x.session; buffer = 0xEE ∷ replicate 255 0 }

without-own-buffer : ((hears (begun B turn) (Ask.transfer turn)).way ≡ 0xCC ∷ 0xCC ∷ []) × ((hears (rewritten (begun B turn)) (Ask.transfer turn)).way ≡ 0xEE ∷ 0xCC ∷ [])
unfolding if_else any_below frame_size_broken payload_size_broken by_eof header_layout flag_of layer_place need_of rows_by stamp_of layer_of header_by reading_of turn_of spoilt_of closed_of plus_of timed_of post_of shown_of sizes_broken fill_broken accounts_broken counts_broken rule50 read_of took_of took_buffer hands_out hands_of out_of handed_of take_of buffer_of lost_of
without-own-buffer = (refl, refl)
