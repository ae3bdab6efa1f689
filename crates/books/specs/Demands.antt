-- What is demanded of a session after any calls: the words of specs/Statement.antt.
use Rattle.session_rules.specs.Options.{Ended}
use Rattle.std.specs.Prelude.{ℕ, ◌+◌, ◌≡◌, Bool, true, false, List, [], ◌∷◌, ◌++◌, map, length, get_or, take, None, Some}
use Rattle.sizes.specs.declared.Opening.{Opening}
use Rattle.session_rules.specs.declared.Header.{Header}
use Rattle.session_rules.specs.declared.Reason.TheVariants.{Mixed}
use Rattle.session_rules.specs.declared.Fate.{Fate}
use Rattle.session_rules.specs.declared.Answer.{Answer}
use Rattle.session_rules.specs.declared.Delivery.{Delivery}
use Rattle.session_rules.specs.declared.Account.{Account}
use Rattle.session_rules.specs.Entry.{Entry}
use Rattle.session_rules.specs.declared.Ledger.{Ledger}
use Rattle.session_rules.specs.Ledger.{count_of, bytes_of}
use Rattle.books.specs.Rule.{Event, idle, unreadable, missing, readable, mark, frame_of, stray_of, closed, data_of, first_stamp, last_layer, still_of, fault, Item, frames_by, entry_of, entries, lost_line, idle_line, one_in, part_in, total, stamps, untimed, forward, back, between}
use Rattle.session_rules.specs.Accounts.{accounts, place_of, lost_at, idle_at, ticks_at, backward_at, untimed_at}
use Rattle.session_rules.specs.Call.{Call}
use Rattle.books.specs.Answer.{last_run}

-- THE LEDGER AND THE RULE: every number of a ledger is what the rule gives from the opening and the calls taken.
pub record Right (o : Opening) (cs : List Call) (l : Ledger) : Type 0 where
  pub counts : (a : Account) → count_of l (place_of a) ≡ total (one_in (place_of a)) (entries o cs)
  pub bytes : (a : Account) → bytes_of l (place_of a) ≡ total (part_in (place_of a)) (entries o cs)
  pub losses : get_or l.numbers lost_at 0 ≡ total (one_in lost_line) (entries o cs)
  pub idles : get_or l.numbers idle_at 0 ≡ total (one_in idle_line) (entries o cs)
  pub ticks : get_or l.numbers ticks_at 0 ≡ between forward (stamps (entries o cs))
  pub backward : get_or l.numbers backward_at 0 ≡ between back (stamps (entries o cs))
  pub plain : get_or l.numbers untimed_at 0 ≡ total untimed (entries o cs)

-- NOTHING GOES MISSING: the byte accounts together
abbrev pub over : (Account → ℕ) → List Account → ℕ
over f [] = 0
over f (a ∷ rest) = f a + over f rest

abbrev pub all_bytes : Ledger → ℕ
all_bytes l = over (λ a. bytes_of l (place_of a)) accounts

-- WHAT AN ANSWER SAYS: the frame that was ended, and the transfer's own fate, as items of the rule
abbrev pub ended_items : Ended → ℕ → List ℕ → List Item
ended_items None n d = []
ended_items (Some why) n d = record { entry = Entry.Dropped why n; load = d } ∷ []

abbrev pub fate_items : Fate → ℕ → List ℕ → List Item
fate_items Fate.Idle n d = []
fate_items Fate.Kept n d = []
fate_items Fate.Stray n d = record { entry = Entry.Stray n; load = d } ∷ []
fate_items (Fate.Delivered x) n d = record { entry = Entry.Delivered x; load = d } ∷ []
fate_items (Fate.Still x) n d = record { entry = Entry.Still x; load = d } ∷ []
fate_items (Fate.Dropped why) n d = record { entry = Entry.Dropped why n; load = d } ∷ []
fate_items (Fate.Unreadable k) n d = []

-- a frame under way, of data d, or none
pub data UnderWay : List Item → Type 0 where
  none : UnderWay []
  one : (n : ℕ) (d : List ℕ) → UnderWay (record { entry = Entry.UnderWay n; load = d } ∷ [])

-- what the rule gains by one call more: what was settled stays, the frame under way goes on, and what the answer says is settled besides
pub record Gains (o : Opening) (cs : List Call) (c : Call) (says : List Item) : Type 0 where
  pub settled : List Item
  pub was : List Item
  pub is : List Item
  pub before : frames_by o cs ≡ settled ++ was
  pub now : frames_by o (cs ++ (c ∷ [])) ≡ (settled ++ says) ++ is
  pub was-way : UnderWay was
  pub is-way : UnderWay is

-- what the answer to a transfer says: some frame of n bytes was ended, and the fate has m bytes
pub record Says (o : Opening) (cs : List Call) (c : Call) (a : Answer) : Type 0 where
  pub n : ℕ
  pub m : ℕ
  pub d : List ℕ
  pub e : List ℕ
  pub gains : Gains o cs c (ended_items a.ended n d ++ fate_items a.fate m e)

-- DELIVERED IS WHOLE: after these calls the last run's frame has its EOF, no fault and no stray after it; its still bit is b; the buffer's first bytes are
-- its payload bytes, in order, as many as the delivery says, the delivery's stamp is the frame's first and its layer the frame's last.
pub record Whole (o : Opening) (cs : List Call) (b : Bool) (d : Delivery) (buffer : List ℕ) : Type 0 where
  pub ended : closed o (frame_of o (last_run o cs)) ≡ true
  pub sound : fault o (frame_of o (last_run o cs)) ≡ None
  pub alone : stray_of o (last_run o cs) ≡ []
  pub bit : still_of (frame_of o (last_run o cs)) ≡ b
  pub payload : take d.len buffer ≡ data_of (frame_of o (last_run o cs))
  pub size : d.len ≡ length (data_of (frame_of o (last_run o cs)))
  pub stamp : d.stamp ≡ first_stamp (frame_of o (last_run o cs))
  pub layer : d.layer ≡ last_layer (frame_of o (last_run o cs))

-- every readable transfer's header has it
abbrev pub EachHeader : (Header → Type 0) → List Event → Type 0
EachHeader P [] = Unit {0}
EachHeader P (idle ∷ es) = EachHeader P es
EachHeader P (unreadable n ∷ es) = EachHeader P es
EachHeader P (missing ∷ es) = EachHeader P es
EachHeader P (readable h d ∷ es) = P h × EachHeader P es
EachHeader P (mark ∷ es) = EachHeader P es

-- every entry has it
abbrev pub EachEntry : (Entry → Type 0) → List Entry → Type 0
EachEntry Q [] = Unit {0}
EachEntry Q (e ∷ es) = Q e × EachEntry Q es

-- NO STILLS: no readable transfer has the still bit
abbrev pub FilmHeader : Header → Type 0
FilmHeader h = h.still ≡ false

abbrev pub Film : List Event → Type 0
Film es = EachHeader FilmHeader es

-- neither a still nor mixed
abbrev pub NoStill : Entry → Type 0
NoStill (Entry.Still d) = ⊥
NoStill (Entry.Dropped w n) = w ≡ Mixed → ⊥
NoStill (Entry.Delivered d) = Unit {0}
NoStill (Entry.UnderWay n) = Unit {0}
NoStill (Entry.Stray n) = Unit {0}
NoStill (Entry.Unreadable n) = Unit {0}
NoStill (Entry.Headers n) = Unit {0}
NoStill Entry.Lost = Unit {0}
NoStill Entry.Idle = Unit {0}

-- no frame is a still or mixed, and both accounts are zero
pub record WithoutStills (o : Opening) (cs : List Call) (l : Ledger) : Type 0 where
  pub frames : EachEntry NoStill (map entry_of (frames_by o cs))
  pub stills : count_of l (place_of Account.Still) ≡ 0
  pub still-bytes : bytes_of l (place_of Account.Still) ≡ 0
  pub mixed : count_of l (place_of Account.Mixed) ≡ 0
  pub mixed-bytes : bytes_of l (place_of Account.Mixed) ≡ 0
