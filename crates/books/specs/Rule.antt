-- Document 01, "The frame rule, from the list alone", "Steps" and the accounts, with document 02, "Two" (cameras that send no EOF), "Ten" (stills) and "Twelve" (layers). List functions only:
-- no state, and nothing of the session but the reading of one transfer. The framing byte is read in two places: whether EOF counts, and what a run that is not the last makes of its frame.
use Rattle.session_rules.specs.Options.{Fault, Layer, Stamp}
use Rattle.std.specs.Prelude.{ℕ, ◌+◌, ◌-◌, ◌%◌, ◌^◌, Bool, true, false, cond, not, ◌&&◌, ◌||◌, List, [], ◌∷◌, ◌++◌, map, length, drop, ltb, eqb, None, Some}
use Rattle.std.specs.Bool.{beq}
use Rattle.sizes.specs.declared.Opening.{Opening}
use Rattle.sizes.specs.Framing.{by_eof}
use Rattle.session_rules.specs.declared.Header.{Header}
use Rattle.session_rules.specs.declared.Reading.{Reading}
use Rattle.session_rules.specs.declared.Reading.TheVariants.{Idle, Unreadable, Readable}
use Rattle.session_rules.specs.Transfer.{reading_of}
use Rattle.session_rules.specs.declared.Reason.{Reason}
use Rattle.session_rules.specs.declared.Reason.TheVariants.{Gap, Error, Clock, Mixed, Long, Cut, Empty}
use Rattle.session_rules.specs.declared.Delivery.{Delivery}
use Rattle.session_rules.specs.declared.Account.{Account}
use Rattle.session_rules.specs.Accounts.{accounts, account_count, place_of, account_for}
use Rattle.session_rules.specs.Entry.{Entry}
use Rattle.session_rules.specs.Call.{Call, transfer, lost, handed, close}

-- THE LIST holds the calls taken in order, and the marks of hand-outs. What each is: idle; unreadable, of so many bytes; lost; readable, with its header and its data;
-- or a mark.
pub data Event : Type 0 where
  idle : Event
  unreadable : ℕ → Event
  missing : Event
  readable : Header → List ℕ → Event
  mark : Event

abbrev pub event_by : Reading → List ℕ → Event
event_by Idle t = idle
event_by (Unreadable k) t = unreadable (length t)
event_by (Readable h) t = readable h (drop h.len t)

abbrev pub events : Opening → List Call → List Event
events o [] = []
events o (transfer t ∷ cs) = event_by (reading_of o t) t ∷ events o cs
events o (lost ∷ cs) = missing ∷ events o cs
events o (handed ∷ cs) = mark ∷ events o cs
events o (close ∷ cs) = []

-- the session is open until close
abbrev pub is_open : List Call → Bool
is_open [] = true
is_open (transfer t ∷ cs) = is_open cs
is_open (lost ∷ cs) = is_open cs
is_open (handed ∷ cs) = is_open cs
is_open (close ∷ cs) = false

-- THE READABLE TRANSFERS IN ORDER, each with whether an unreadable or lost one comes before it with no readable one between; whether one comes after it with neither a
-- readable one nor a mark between; and whether a mark comes after it with no readable one between.
pub record Seen : Type 0 where
  pub header : Header
  pub load : List ℕ
  pub before : Bool
  pub after : Bool
  pub marked : Bool

abbrev pub spoiled : List Event → Bool
spoiled [] = false
spoiled (idle ∷ es) = spoiled es
spoiled (unreadable n ∷ es) = true
spoiled (missing ∷ es) = true
spoiled (readable h d ∷ es) = false
spoiled (mark ∷ es) = false

abbrev pub marks : List Event → Bool
marks [] = false
marks (idle ∷ es) = marks es
marks (unreadable n ∷ es) = marks es
marks (missing ∷ es) = marks es
marks (readable h d ∷ es) = false
marks (mark ∷ es) = true

abbrev pub readables : Bool → List Event → List Seen
readables b [] = []
readables b (idle ∷ es) = readables b es
readables b (unreadable n ∷ es) = readables true es
readables b (missing ∷ es) = readables true es
readables b (readable h d ∷ es) = record { header = h; load = d; before = b; after = spoiled es; marked = marks es } ∷ readables false es
readables b (mark ∷ es) = readables b es

-- CUT INTO THE LONGEST RUNS OF EQUAL FID (proofs/Runs.antt shows that these are the longest).
abbrev pub same : Seen → Seen → Bool
same t u = beq t.header.fid u.header.fid

abbrev pub ahead : Seen → List (List Seen) → List (List Seen)
ahead t [] = (t ∷ []) ∷ []
ahead t ([] ∷ rs) = (t ∷ []) ∷ rs
ahead t ((u ∷ us) ∷ rs) = cond (same t u) ((t ∷ u ∷ us) ∷ rs) ((t ∷ []) ∷ (u ∷ us) ∷ rs)

abbrev pub runs : List Seen → List (List Seen)
runs [] = []
runs (t ∷ ts) = ahead t (runs ts)

-- EOF counts with D1 of the framing byte set, and is ignored with it clear. A mark closes the frame as EOF would.
abbrev pub eof_of : Opening → Header → Bool
eof_of o h = by_eof o && h.eof

abbrev pub closes : Opening → Seen → Bool
closes o t = eof_of o t.header || t.marked

-- IN EACH RUN the part up to and including its first EOF, or up to its mark (all of it, if none), is a frame; what follows is stray.
abbrev pub frame_of : Opening → List Seen → List Seen
frame_of o [] = []
frame_of o (t ∷ ts) = t ∷ cond (closes o t) [] (frame_of o ts)

abbrev pub stray_of : Opening → List Seen → List Seen
stray_of o [] = []
stray_of o (t ∷ ts) = cond (closes o t) ts (stray_of o ts)

-- a frame is complete if it has an EOF or its mark; with D1 clear also where its run is not the last, since a readable transfer of the other FID has come
abbrev pub closed : Opening → List Seen → Bool
closed o [] = false
closed o (t ∷ ts) = closes o t || closed o ts

abbrev pub complete : Opening → Bool → List Seen → Bool
complete o last ts = closed o ts || (not (by_eof o) && not last)

-- its payload bytes, in order
abbrev pub data_of : List Seen → List ℕ
data_of [] = []
data_of (t ∷ ts) = t.load ++ data_of ts

-- its first stamp
infixr 30 ◌or_stamp◌
abbrev pub ◌or_stamp◌ : Stamp → Stamp → Stamp
None or_stamp s = s
Some x or_stamp s = Some x

abbrev pub first_stamp : List Seen → Stamp
first_stamp [] = None
first_stamp (t ∷ ts) = t.header.stamp or_stamp first_stamp ts

-- its layer: that of its last transfer that has one
infixr 30 ◌then_layer◌
abbrev pub ◌then_layer◌ : Layer → Layer → Layer
x then_layer None = x
x then_layer Some y = Some y

abbrev pub last_layer : List Seen → Layer
last_layer [] = None
last_layer (t ∷ ts) = t.header.layer then_layer last_layer ts

-- its still bit: that of its first transfer
abbrev pub still_of : List Seen → Bool
still_of [] = false
still_of (t ∷ ts) = t.header.still

-- FAULTS. The earliest names the frame; within one transfer the order is error, clock, mixed, long. A gap has its own moment: before the frame's first transfer, or
-- after one of it that has no EOF, and before its mark.
infixr 30 ◌or◌
abbrev pub ◌or◌ : Fault → Fault → Fault
None or y = y
Some w or y = Some w

abbrev pub when : Bool → Reason → Fault
when true w = Some w
when false w = None

-- clock: the frame's first stamp, and a stamp that differs from it
abbrev pub differs : Stamp → Stamp → Bool
differs s None = false
differs None (Some y) = false
differs (Some x) (Some y) = not (eqb x y)

-- mixed: the frame's still bit, and one that differs from it
abbrev pub mixes : Bool → Bool → Bool
mixes b c = not (beq b c)

-- of one transfer, where s is the frame's first stamp, b its still bit and n the data before it
abbrev pub fault_at : Opening → Stamp → Bool → ℕ → Header → ℕ → Fault
fault_at o s b n h d =
    when h.error Error or when (differs s h.stamp) Clock or when (mixes b h.still) Mixed or when (ltb o.frame (n + d)) Long

abbrev pub gap_after : Opening → Seen → Bool
gap_after o t = not (eof_of o t.header) && t.after

abbrev pub fault_from : Opening → Stamp → Bool → ℕ → List Seen → Fault
fault_from o s b n [] = None
fault_from o s b n (t ∷ ts) =
    fault_at o s b n t.header (length t.load) or when (gap_after o t) Gap or fault_from o s b (n + length t.load) ts

abbrev pub gap_before : List Seen → Bool
gap_before [] = false
gap_before (t ∷ ts) = t.before

abbrev pub fault : Opening → List Seen → Fault
fault o ts = when (gap_before ts) Gap or fault_from o (first_stamp ts) (still_of ts) 0 ts

-- WHAT BECOMES OF IT: an entry of the ledger, with the payload bytes that it stands for.
pub record Item : Type 0 where
  pub entry : Entry
  pub load : List ℕ

-- Complete: its fault, or empty if it has no data, else handed out: a still if its bit is set, and otherwise delivered. Not complete: under way while its run is
-- the last and the session open; else ended, by its fault, or cut.
abbrev pub handed_out : Bool → Delivery → Entry
handed_out true d = Entry.Still d
handed_out false d = Entry.Delivered d

abbrev pub verdict : Bool → Bool → Fault → Stamp → Layer → Bool → ℕ → Entry
verdict way true (Some w) s y b n = Entry.Dropped w n
verdict way true None s y b n = cond (eqb n 0) (Entry.Dropped Empty n) (handed_out b (record { len = n; stamp = s; layer = y }))
verdict true false q s y b n = Entry.UnderWay n
verdict false false (Some w) s y b n = Entry.Dropped w n
verdict false false None s y b n = Entry.Dropped Cut n

abbrev pub settled : Bool → Bool → Fault → Stamp → Layer → Bool → List ℕ → Item
settled way c q s y b d = record { entry = verdict way c q s y b (length d); load = d }

abbrev pub strays : List Seen → List Item
strays [] = []
strays (t ∷ ts) = record { entry = Entry.Stray (length t.load); load = t.load } ∷ strays ts

abbrev pub judge : Opening → Bool → Bool → List Seen → List Item
judge o open₀ last r =
    settled (open₀ && last) (complete o last (frame_of o r)) (fault o (frame_of o r)) (first_stamp (frame_of o r)) (last_layer (frame_of o r)) (still_of (frame_of o r))
    (data_of (frame_of o r))
    ∷ strays (stray_of o r)

abbrev pub nothing : List (List Seen) → Bool
nothing [] = true
nothing (r ∷ rs) = false

abbrev pub judged : Opening → Bool → List (List Seen) → List Item
judged o open₀ [] = []
judged o open₀ (r ∷ rs) = judge o open₀ (nothing rs) r ++ judged o open₀ rs

-- the frames and strays of a list, in order
abbrev pub frames_of : Opening → Bool → List Event → List Item
frames_of o open₀ es = judged o open₀ (runs (readables false es))

-- the entries of the transfers and reports by themselves: a readable one's header, and all others. A mark has none.
abbrev pub loose : List Event → List Entry
loose [] = []
loose (idle ∷ es) = Entry.Idle ∷ loose es
loose (unreadable n ∷ es) = Entry.Unreadable n ∷ loose es
loose (missing ∷ es) = Entry.Lost ∷ loose es
loose (readable h d ∷ es) = Entry.Headers h.len ∷ loose es
loose (mark ∷ es) = loose es

abbrev pub entry_of : Item → Entry
entry_of x = x.entry

-- ALL ENTRIES of the calls taken
abbrev pub frames_by : Opening → List Call → List Item
frames_by o cs = frames_of o (is_open cs) (events o cs)

abbrev pub entries : Opening → List Call → List Entry
entries o cs = map entry_of (frames_by o cs) ++ loose (events o cs)

-- THE ACCOUNTS: how many entries an account has, and how many bytes they have together.
-- The line of print that an entry counts in, from 0: its account's place; lost and idle come after the accounts.
abbrev pub lost_line : ℕ
lost_line = account_count

abbrev pub idle_line : ℕ
idle_line = account_count + 1

abbrev pub line_of : Entry → ℕ
line_of (Entry.Delivered d) = place_of Account.Delivered
line_of (Entry.Still d) = place_of Account.Still
line_of (Entry.Dropped w n) = place_of (account_for w)
line_of (Entry.UnderWay n) = place_of Account.UnderWay
line_of (Entry.Stray n) = place_of Account.Stray
line_of (Entry.Unreadable n) = place_of Account.Unreadable
line_of (Entry.Headers n) = place_of Account.Headers
line_of Entry.Lost = lost_line
line_of Entry.Idle = idle_line

abbrev pub bytes_in : Entry → ℕ
bytes_in (Entry.Delivered d) = d.len
bytes_in (Entry.Still d) = d.len
bytes_in (Entry.Dropped w n) = n
bytes_in (Entry.UnderWay n) = n
bytes_in (Entry.Stray n) = n
bytes_in (Entry.Unreadable n) = n
bytes_in (Entry.Headers n) = n
bytes_in Entry.Lost = 0
bytes_in Entry.Idle = 0

abbrev pub one_in : ℕ → Entry → ℕ
one_in k e = cond (eqb (line_of e) k) 1 0

abbrev pub part_in : ℕ → Entry → ℕ
part_in k e = cond (eqb (line_of e) k) (bytes_in e) 0

abbrev pub total : (Entry → ℕ) → List Entry → ℕ
total m [] = 0
total m (e ∷ es) = m e + total m es

-- STEPS, between consecutive delivered frames that have a stamp; a delivered frame with no stamp is untimed and passed over. A still is passed over, stamp or
-- none: it ends no step, starts none and is not untimed.
abbrev pub stamp_list : Stamp → List ℕ
stamp_list None = []
stamp_list (Some x) = x ∷ []

abbrev pub stamps_of : Entry → List ℕ
stamps_of (Entry.Delivered d) = stamp_list d.stamp
stamps_of (Entry.Still d) = []
stamps_of (Entry.Dropped w n) = []
stamps_of (Entry.UnderWay n) = []
stamps_of (Entry.Stray n) = []
stamps_of (Entry.Unreadable n) = []
stamps_of (Entry.Headers n) = []
stamps_of Entry.Lost = []
stamps_of Entry.Idle = []

abbrev pub stamps : List Entry → List ℕ
stamps [] = []
stamps (e ∷ es) = stamps_of e ++ stamps es

-- the last of them, if there is one: from it the next step is taken
abbrev pub last_stamped : List ℕ → Stamp
last_stamped [] = None
last_stamped (a ∷ []) = Some a
last_stamped (a ∷ b ∷ bs) = last_stamped (b ∷ bs)

abbrev pub no_stamp : Stamp → ℕ
no_stamp None = 1
no_stamp (Some x) = 0

abbrev pub untimed : Entry → ℕ
untimed (Entry.Delivered d) = no_stamp d.stamp
untimed (Entry.Still d) = 0
untimed (Entry.Dropped w n) = 0
untimed (Entry.UnderWay n) = 0
untimed (Entry.Stray n) = 0
untimed (Entry.Unreadable n) = 0
untimed (Entry.Headers n) = 0
untimed Entry.Lost = 0
untimed Entry.Idle = 0

-- later minus earlier modulo 2^32; read as signed, it is forward below 2^31 and else negative
abbrev pub step : ℕ → ℕ → ℕ
step earlier later = (later + 2 ^ 32 - earlier) % 2 ^ 32

abbrev pub forward : ℕ → ℕ → ℕ
forward a b = cond (ltb (step a b) (2 ^ 31)) (step a b) 0

abbrev pub back : ℕ → ℕ → ℕ
back a b = cond (ltb (step a b) (2 ^ 31)) 0 1

abbrev pub between : (ℕ → ℕ → ℕ) → List ℕ → ℕ
between f [] = 0
between f (a ∷ []) = 0
between f (a ∷ b ∷ bs) = f a b + between f (b ∷ bs)

-- BYTES RECEIVED: of all transfers taken
abbrev pub received : List Call → ℕ
received [] = 0
received (transfer t ∷ cs) = length t + received cs
received (lost ∷ cs) = received cs
received (handed ∷ cs) = received cs
received (close ∷ cs) = 0

-- THE PRINT: the numbers of the lines, in order: each account's count and bytes, then lost, idle, ticks, backward and untimed
abbrev pub account_numbers : List Account → List Entry → List ℕ → List ℕ
account_numbers [] es rest = rest
account_numbers (a ∷ more) es rest = total (one_in (place_of a)) es ∷ total (part_in (place_of a)) es ∷ account_numbers more es rest

abbrev pub numbers_of : List Entry → List ℕ
numbers_of es =
    account_numbers accounts es
    (total (one_in lost_line) es ∷ total (one_in idle_line) es ∷ between forward (stamps es) ∷ between back (stamps es) ∷ total untimed es ∷ [])
