-- Document 02, "Fourteen": damage stays behind. Two sessions, each with one buffer that nobody else writes (books/specs/Alike), are given the same calls, starting with a readable transfer of the
-- other FID; from there on all that is heard of them is the same.
use Rattle.std.specs.Prelude.{ℕ, ◌≡◌, Bool, false, List, [], ◌∷◌, ◌++◌, take}
use Rattle.sizes.specs.declared.Opening.{Opening}
use Rattle.session_rules.specs.declared.Phase.{Phase}
use Rattle.session_rules.specs.declared.Phase.TheVariants.{Fresh, Under, Past}
use Rattle.session_rules.specs.declared.Answer.{Answer}
use Rattle.session_rules.specs.declared.Session.{Session}
use Rattle.session_rules.specs.declared.Outcome.{Outcome}
use Rattle.session_rules.specs.Session.{fresh}
use Rattle.session_rules.specs.Call.{Ask, Call}
use Rattle.session_rules.specs.Calls.{Offer, after, offers}
use Rattle.books.specs.Rule.{events}
use Rattle.books.specs.LastReadable.{none, of, last_fid, spoilt_since}
use Rattle.books.specs.Alike.{At, onward, Said, said_of, fate_length, way_of, heard}

-- THE PREMISE, of a session record: in or after a frame of this FID, with nothing unreadable or lost since the last readable transfer. Whatever frame, fault, data, stamps, ledger and transfers taken
-- it holds. (That it is open follows: none of the calls is refused.)
abbrev pub In : Bool → Phase → Type 0
In f Fresh = ⊥
In f (Under r) = r.fid ≡ f
In f (Past g) = g ≡ f

pub record Stands (f : Bool) (s : Session) : Type 0 where
  pub run : In f s.rest.track.phase
  pub clear : s.rest.track.gap ≡ false

-- THE SAME FROM THE LIST ALONE: the last readable transfer taken has this FID, with nothing unreadable or lost since
pub record LastIs (f : Bool) (o : Opening) (cs : List Call) : Type 0 where
  pub fid : last_fid none (events o cs) ≡ of f
  pub clear : spoilt_since false (events o cs) ≡ false

-- a session that was opened with o and offered xs, with whatever buffers, and the buffer that it has from here on
abbrev pub reached : Opening → List Offer → List ℕ → At
reached o xs b = record { session = after (fresh o) xs; buffer = b }

-- THE FIRST TRANSFER IS OFFERED UNTIL IT IS TAKEN, in each session by itself: again, where the call hands out the frame before it ("offered again where request Two asks it").
-- Where the session is when it is offered for the last time,
abbrev pub ready_by : Said → At → At → At
ready_by (Said.took (Outcome.Refused k)) x later = x
ready_by (Said.took (Outcome.Taken a)) x later = x
ready_by (Said.took (Outcome.Handed y)) x later = later
ready_by (Said.noted y) x later = x
ready_by (Said.shut y) x later = x

abbrev pub ready : At → List ℕ → At
ready x t = ready_by (said_of x (Ask.transfer t)) x (onward x (Ask.transfer t))

-- where it is once it is taken,
abbrev pub begun : At → List ℕ → At
begun x t = onward (ready x t) (Ask.transfer t)

-- and all its calls: the first transfer, once or twice, and the further ones
abbrev pub again_by : Said → List ℕ → List Ask
again_by (Said.took (Outcome.Refused k)) t = []
again_by (Said.took (Outcome.Taken a)) t = []
again_by (Said.took (Outcome.Handed y)) t = Ask.transfer t ∷ []
again_by (Said.noted y) t = []
again_by (Said.shut y) t = []

abbrev pub calls : At → List ℕ → List Ask → List Ask
calls x t ks = Ask.transfer t ∷ (again_by (said_of x (Ask.transfer t)) t ++ ks)

-- and its offers, with its buffer
abbrev pub offered : At → List ℕ → List Ask → List Offer
offered x t ks = offers x.session x.buffer (calls x t ks)

-- THE CONCLUSION: the first transfer is taken, and its own fate and the bytes of its frame are the same (what became of the frame before it may differ); and from there on all that is heard of the
-- further calls: every outcome, the bytes of every frame delivered or handed out, and those of a frame under way.
pub record Behind (x y : At) (t : List ℕ) (ks : List Ask) : Type 0 where
  pub mine : Answer
  pub yours : Answer
  pub here : said_of (ready x t) (Ask.transfer t) ≡ Said.took (Outcome.Taken mine)
  pub there : said_of (ready y t) (Ask.transfer t) ≡ Said.took (Outcome.Taken yours)
  pub fate : mine.fate ≡ yours.fate
  pub handed : take (fate_length mine.fate) (begun x t).buffer ≡ take (fate_length yours.fate) (begun y t).buffer
  pub way : way_of (begun x t) ≡ way_of (begun y t)
  pub onwards : heard (begun x t) ks ≡ heard (begun y t) ks
