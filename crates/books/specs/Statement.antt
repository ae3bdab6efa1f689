-- THE STATEMENT: what a session is held to, sentence by sentence of the owner's demands and in their order. It is proved once, in proofs/Proved.
-- That each call ends, on any bytes, is what the checker admits a function for; what it answers is the definition that its contract cites (session_rules/specs/Session). The rule that
-- it is held to stands in Rule, Answer and Offers, from the opening and the list of calls alone.
use Rattle.session_rules.specs.Options.{Ended}
use Rattle.std.specs.Prelude.{ℕ, suc, ◌≤◌, ◌≡◌, Bool, true, false, not, List, [], ◌∷◌, ◌++◌, ◌↔◌, length, get_or, eqb, Err, Ok}
use Rattle.rules.specs.Numbered.{or_else}
use Rattle.sizes.specs.declared.Opening.{Opening}
use Rattle.sizes.specs.declared.HeaderKind.TheVariants.{Old, Vp8}
use Rattle.sizes.specs.Framing.{by_eof}
use Rattle.sizes.specs.Sizes.{sizes_broken}
use Rattle.session_rules.specs.declared.Header.{Header}
use Rattle.session_rules.specs.declared.Reading.{Reading}
use Rattle.session_rules.specs.declared.Answer.{Answer}
use Rattle.session_rules.specs.declared.Delivery.{Delivery}
use Rattle.session_rules.specs.declared.HandOut.{HandOut}
use Rattle.session_rules.specs.declared.Session.{Session}
use Rattle.session_rules.specs.declared.Outcome.{Outcome}
use Rattle.session_rules.specs.Transfer.{reading_of, FirstBroken, NoneBroken}
use Rattle.session_rules.specs.OldKind.{OldKind}
use Rattle.session_rules.specs.Vp8Kind.{Vp8Kind}
use Rattle.session_rules.specs.Track.{handing}
use Rattle.session_rules.specs.Accounts.{ticks_at}
use Rattle.session_rules.specs.Refusals.{record_broken, ledger_of}
use Rattle.session_rules.specs.Session.{fresh, open_of, take_of, buffer_of, lost_of, close_of}
use Rattle.session_rules.specs.WhenRefused.{OpenWhen, TakeWhen, LostWhen, CloseWhen}
use Rattle.session_rules.specs.Call.{Ask, Call}
use Rattle.session_rules.specs.Calls.{Offer, refusal, next, after, taken, next_call, run, offers, buffer_after}
use Rattle.books.specs.Rule.{events, is_open, entries, numbers_of, stamps, last_stamped, forward, between, received}
use Rattle.books.specs.Demands.{Right, all_bytes, ended_items, fate_items, Gains, Says, Whole, Film, WithoutStills}
use Rattle.books.specs.HandedOut.{HandsOut, HandedWhole, MarkedBefore, EofFraming}
use Rattle.books.specs.HeaderKinds.{NoLayers, AllTimed, ReportsNone, ClosesNoStill, AnswersNoStill}
use Rattle.books.specs.Answer.{answer_of}
use Rattle.books.specs.Offers.{taken_in, refused_by, listed_as, list_of, refused_or, take_says, lost_says, close_says, take_leaves}
use Rattle.books.specs.Alike.{At, NoneRefused, heard, Same}

-- the session after these offers, from a fresh one
abbrev pub reached : Opening → List Offer → Session
reached o xs = after (fresh o) xs

-- 1. NO INPUT STOPS IT.
pub record NoInputStops : Type 0 where
  -- "Any bytes, any session record: each call .. answers or refuses with a number from the table, in that table's order": exactly when, in words (session_rules/specs/WhenRefused)
  pub open-when : (o : Opening) (room : ℕ) → OpenWhen o room
  pub take-when : (s : Session) (room : ℕ) (t : List ℕ) → TakeWhen s room t
  pub lost-when : (s : Session) → LostWhen s
  pub close-when : (s : Session) → CloseWhen s
  -- "A refused call changes no lent byte and no session."
  pub session-kept : (s : Session) (x : Offer) (k : ℕ) → refusal s x ≡ suc k → next s x ≡ s
  pub bytes-kept : (s : Session) (buffer t : List ℕ) (k : ℕ) → refusal s (Offer.take buffer t) ≡ suc k → buffer_of s buffer t ≡ buffer
  -- An opening that is not refused gives a fresh session of admissible sizes; one that is refused gives a session that refuses everything by 50.
  pub opened : (o : Opening) (room : ℕ) → (open_of o room).start ≡ Ok tt → ((open_of o room).session ≡ fresh o) × (sizes_broken o ≡ false)
  pub refused-opening : (o : Opening) (room k : ℕ) → (open_of o room).start ≡ Err k → (xs : List Offer) (x : Offer) → refusal (after (open_of o room).session xs) x ≡ 50
  -- From an opening on, when a call is refused and by which number follows from the opening and the offers alone. 50 is the opening's alone, so a session is never stuck:
  pub refusals : (o : Opening) (xs : List Offer) (x : Offer) → refusal (reached o xs) x ≡ refused_by o (list_of o xs) x
  pub broken : (o : Opening) (xs : List Offer) → record_broken (reached o xs) ≡ sizes_broken o
  -- an open one refuses a lost report, and a transfer of at most 65,536 bytes with a buffer of the frame size, by 52 alone, and close never.
  pub take-only-full : (o : Opening) → sizes_broken o ≡ false → (xs : List Offer) → is_open (list_of o xs) ≡ true → (buffer t : List ℕ) → o.frame ≤ length buffer → length t ≤ 65_536
      → refusal (reached o xs) (Offer.take buffer t) ≡ or_else (eqb (taken_in (list_of o xs)) 4_294_967_295) 52 0
  pub lost-only-full : (o : Opening) → sizes_broken o ≡ false → (xs : List Offer) → is_open (list_of o xs) ≡ true
      → refusal (reached o xs) Offer.lost ≡ or_else (eqb (taken_in (list_of o xs)) 4_294_967_295) 52 0
  pub close_never : (o : Opening) → sizes_broken o ≡ false → (xs : List Offer) → is_open (list_of o xs) ≡ true → refusal (reached o xs) Offer.close ≡ 0

-- 2. IT READS THE CLASS, of payload transfers and frames.
pub record FramesAreWhole : Type 0 where
  -- A transfer is idle, unreadable by the first broken rule of 61 to 67, or readable with its header, each exactly when.
  pub idle : (o : Opening) (t : List ℕ) → (reading_of o t ≡ Reading.Idle) ↔ (t ≡ [])
  pub unreadable : (o : Opening) (t : List ℕ) (k : ℕ) → (reading_of o t ≡ Reading.Unreadable k) ↔ FirstBroken o t k
  pub readable : (o : Opening) (t : List ℕ) (h : Header) → (reading_of o t ≡ Reading.Readable h) ↔ NoneBroken o t h
  -- "A frame handed out is exactly the payload bytes of one whole frame, in order", delivered or a still: with one buffer that nobody else writes and that has the frame size.
  pub delivered : (o : Opening) (buffer : List ℕ) (calls : List Ask) → o.frame ≤ length buffer → (t : List ℕ) (a : Answer) (b : Bool) (d : Delivery)
      → (take_of (reached o (offers (fresh o) buffer calls)) (length (buffer_after (fresh o) buffer calls)) t).outcome ≡ Outcome.Taken a → a.fate ≡ handing b d
      → Whole o (list_of o (offers (fresh o) buffer calls) ++ (Call.transfer t ∷ [])) b d (buffer_of (reached o (offers (fresh o) buffer calls)) (buffer_after (fresh o) buffer calls) t)
  -- So is one that is handed out before a transfer of the other FID is taken (document 02, Two).
  pub handed : (o : Opening) (buffer : List ℕ) (calls : List Ask) → o.frame ≤ length buffer → (t : List ℕ) (x : HandOut)
      → (take_of (reached o (offers (fresh o) buffer calls)) (length (buffer_after (fresh o) buffer calls)) t).outcome ≡ Outcome.Handed x
      → HandedWhole o (list_of o (offers (fresh o) buffer calls)) x (buffer_of (reached o (offers (fresh o) buffer calls)) (buffer_after (fresh o) buffer calls) t)
  -- "A transfer's data is written straight after the frame's earlier data .. if the frame has no fault up to and with this transfer; otherwise nothing is written. No other byte changes."
  pub buffers : (o : Opening) (xs : List Offer) (buffer t : List ℕ) → buffer_of (reached o xs) buffer t ≡ take_leaves o (list_of o xs) buffer t

-- 3. NOTHING GOES MISSING FROM THE BOOKS, from a fresh session, after any calls.
pub record NothingGoesMissing : Type 0 where
  -- The list of calls follows from the opening and the offers alone: refused calls are no part of it, and close is its last. The session is closed when close stands in it.
  pub list : (o : Opening) (xs : List Offer) → taken (fresh o) xs ≡ list_of o xs
  pub history : (o : Opening) (xs : List Offer) → reached o xs ≡ run (fresh o) (list_of o xs)
  pub close-last : (o : Opening) (xs : List Offer) (before rest : List Call) → list_of o xs ≡ before ++ (Call.close ∷ rest) → rest ≡ []
  pub closed : (o : Opening) (xs : List Offer) → (reached o xs).rest.closed ≡ not (is_open (list_of o xs))
  pub counted : (o : Opening) (xs : List Offer) → (reached o xs).rest.taken ≡ taken_in (list_of o xs)
  -- Every offer, refused or not, has one answer and one session after it, from the opening and the offers alone.
  pub answers : (o : Opening) (xs : List Offer) (buffer t : List ℕ) → (take_of (reached o xs) (length buffer) t).outcome ≡ take_says o (list_of o xs) buffer t
  pub reports : (o : Opening) (xs : List Offer) → (lost_of (reached o xs)).report ≡ lost_says o (list_of o xs)
  pub closings : (o : Opening) (xs : List Offer) → (close_of (reached o xs)).closing ≡ close_says o (list_of o xs)
  pub sessions : (o : Opening) (xs : List Offer) (x : Offer)
      → next (reached o xs) x ≡ refused_or (refused_by o (list_of o xs) x) (λ k. reached o xs) (next_call (reached o xs) (listed_as o (list_of o xs) x))
  -- "Every byte taken is in exactly one account": each answer is booked, what it says of a frame ended and of its own transfer is what the rule gains by that call, and all else stays.
  pub answer-gains : (o : Opening) (xs : List Offer) (buffer t : List ℕ) (a : Answer) → (take_of (reached o xs) (length buffer) t).outcome ≡ Outcome.Taken a
      → Says o (list_of o xs) (Call.transfer t) a
  pub handed-gains : (o : Opening) (xs : List Offer) (buffer t : List ℕ) (x : HandOut) → (take_of (reached o xs) (length buffer) t).outcome ≡ Outcome.Handed x
      → (d : List ℕ) × Gains o (list_of o xs) Call.handed (fate_items (handing x.still x.delivery) x.delivery.len d)
  pub report-gains : (o : Opening) (xs : List Offer) → (lost_of (reached o xs)).report ≡ Ok tt → Gains o (list_of o xs) Call.lost []
  pub close-gains : (o : Opening) (xs : List Offer) (e : Ended) → (close_of (reached o xs)).closing ≡ Ok e
      → (n : ℕ) × ((d : List ℕ) × Gains o (list_of o xs) Call.close (ended_items e n d))
  -- "Each account is what the rule gives from the opening and the list of calls alone": every count and every byte, lost, idle, ticks, backward and untimed; and all at once, in the order of print.
  pub accounts : (o : Opening) (xs : List Offer) → Right o (list_of o xs) (ledger_of (reached o xs))
  pub numbers : (o : Opening) (xs : List Offer) → (ledger_of (reached o xs)).numbers ≡ numbers_of (entries o (list_of o xs))
  -- "Together they are the bytes received": those of transfers taken.
  pub together : (o : Opening) (xs : List Offer) → all_bytes (ledger_of (reached o xs)) ≡ received (list_of o xs)
  -- "And the ticks are the sum of forward steps", between delivered frames that have a stamp; the next step is taken from the last of them.
  pub ticks : (o : Opening) (xs : List Offer) → get_or (ledger_of (reached o xs)).numbers ticks_at 0 ≡ between forward (stamps (entries o (list_of o xs)))
  pub last : (o : Opening) (xs : List Offer) → (ledger_of (reached o xs)).last ≡ last_stamped (stamps (entries o (list_of o xs)))

-- DOCUMENT 02, TWO: cameras that send no EOF.
pub record CamerasWithoutEof : Type 0 where
  -- "A readable transfer of the other FID arrives": a take hands a frame out exactly when it is not refused, D1 is clear, the transfer readable, the last run of the other FID and unmarked,
  -- its frame without fault so far and with data; and it is that frame. No frame is passed over without being handed out.
  pub hands_out : (o : Opening) (xs : List Offer) (buffer t : List ℕ) (x : HandOut)
      → ((take_of (reached o xs) (length buffer) t).outcome ≡ Outcome.Handed x) ↔ ((refused_by o (list_of o xs) (Offer.take buffer t) ≡ 0) × HandsOut o (list_of o xs) t x)
  pub marked-before : (o : Opening) (xs : List Offer) → by_eof o ≡ false → MarkedBefore o (list_of o xs)
  -- "The caller offers it again": the same transfer, offered next with the same buffer, is taken; of every record, two hand-outs never follow each other.
  pub again : (o : Opening) → sizes_broken o ≡ false → (xs : List Offer) (buffer t : List ℕ) (x : HandOut) → (take_of (reached o xs) (length buffer) t).outcome ≡ Outcome.Handed x
      → (take_of (reached o (xs ++ (Offer.take buffer t ∷ []))) (length buffer) t).outcome ≡ Outcome.Taken (answer_of o (list_of o xs ++ (Call.handed ∷ [])) t)
  pub never-twice : (s : Session) (b t c u : List ℕ) (x y : HandOut) → (take_of s (length b) t).outcome ≡ Outcome.Handed x
      → (take_of (take_of s (length b) t).session (length c) u).outcome ≡ Outcome.Handed y → ⊥
  -- "With D1 set nothing changes": there are no marks, and each parameter of the rule is document 01's.
  pub eof-framing : (o : Opening) (xs : List Offer) → by_eof o ≡ true → EofFraming o (list_of o xs)

-- DOCUMENT 02, TEN AND TWELVE: still pictures among the film, and the kinds of header.
pub record StillsAndKinds : Type 0 where
  -- Where no readable transfer has the still bit, no frame is a still or mixed, and both accounts are zero.
  pub no-stills : (o : Opening) (xs : List Offer) → Film (events o (list_of o xs)) → WithoutStills o (list_of o xs) (ledger_of (reached o xs))
  -- With the old kind of header each parameter of the reading is document 01's, and no layer is reported, in the list or by any take.
  pub old-kind : (o : Opening) (xs : List Offer) → o.kind ≡ Old → OldKind o × NoLayers o (list_of o xs)
  pub old-answers : (o : Opening) (xs : List Offer) (buffer t : List ℕ) → o.kind ≡ Old → ReportsNone (take_of (reached o xs) (length buffer) t).outcome
  -- With the VP8 kind each is document 02's, and no frame is untimed: not in the list, and not by the ledger's number.
  pub vp8-kind : (o : Opening) (xs : List Offer) → o.kind ≡ Vp8 → Vp8Kind o × AllTimed o (list_of o xs) (ledger_of (reached o xs))
  -- "D5 marks an intra frame there, so this kind has no stills and no mixed": not in the list, not in the accounts, and not by any take or close.
  pub vp8-stills : (o : Opening) (xs : List Offer) → o.kind ≡ Vp8 → WithoutStills o (list_of o xs) (ledger_of (reached o xs))
  pub vp8-answers : (o : Opening) (xs : List Offer) (buffer t : List ℕ) → o.kind ≡ Vp8 → AnswersNoStill (take_of (reached o xs) (length buffer) t).outcome
  pub vp8-closes : (o : Opening) (xs : List Offer) → o.kind ≡ Vp8 → ClosesNoStill (close_of (reached o xs)).closing

-- NOTHING ELSE IS LOOKED AT: two sessions that are opened alike (of the framing byte D1 is enough), with equal tracks and buffers that agree on the bytes of the frame under way, say the
-- same of any calls that both are given, bytes included.
abbrev pub NothingElse : Type 0
NothingElse = (x y : At) (ks : List Ask) → Same x y → NoneRefused x ks → NoneRefused y ks → heard x ks ≡ heard y ks

pub record Statement : Type 0 where
  pub first : NoInputStops
  pub second : FramesAreWhole
  pub third : NothingGoesMissing
  pub two : CamerasWithoutEof
  pub ten-and-twelve : StillsAndKinds
  pub nothing-else : NothingElse
