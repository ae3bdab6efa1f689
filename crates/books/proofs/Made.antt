-- What the tracker's turn enters, with the data D that the frame under way has had so far and the data E that the transfer's frame has with it.
use Rattle.std.specs.Prelude.{None, Some}
use Rattle.session_rules.specs.Options.{Fault, Layer, Stamp}
use Prim.Native.Nat.{ℕ}
use mathlib.Core.Bool.{Bool, true, false, cond, beq}
use mathlib.Core.List.{List, [], ◌++◌}
use lib.Dec.{eqb}
use Rattle.rules.specs.IfElse.{if_else}
use Rattle.sizes.specs.declared.Opening.{Opening}
use Rattle.session_rules.specs.declared.Header.{Header}
use Rattle.session_rules.specs.declared.Reason.TheVariants.{Empty}
use Rattle.session_rules.specs.declared.Run.{Run}
use Rattle.session_rules.specs.declared.Fate.{Fate}
use Rattle.session_rules.specs.declared.Phase.{Phase}
use Rattle.session_rules.specs.declared.Phase.TheVariants.{Fresh, Under, Past}
use Rattle.session_rules.specs.declared.Turn.{Turn}
use Rattle.books.specs.Rule.{Item}
use Rattle.books.specs.Demands.{ended_items, fate_items}
use Rattle.session_rules.specs.Turns.{same_of, why_of, begun_of, joined_of, complete_of, ends_of, turned_why, fate_of, join_turn, stray_turn, turn_by}

-- the data that the frame of a transfer with this FID has had before it
abbrev pub base : Phase → Bool → List ℕ → List ℕ
base Fresh fid D = []
base (Under r) fid D = cond (beq r.fid fid) D []
base (Past f) fid D = []

abbrev pub turn_items : Turn → List ℕ → List ℕ → List Item
turn_items t D E = ended_items t.answer.ended t.gone D ++ fate_items t.answer.fate t.bytes E

-- a turn's fate is that of a readable transfer
abbrev pub Framed : Fate → Type 0
Framed Fate.Idle = ⊥
Framed Fate.Kept = Unit {0}
Framed Fate.Stray = Unit {0}
Framed (Fate.Delivered d) = Unit {0}
Framed (Fate.Still d) = Unit {0}
Framed (Fate.Dropped w) = Unit {0}
Framed (Fate.Unreadable k) = ⊥

complete-framed : (q : Fault) (n : ℕ) (s : Stamp) (y : Layer) (b : Bool) → Framed (complete_of q n s y b)
unfolding if_else
complete-framed (Some w) n s y b = tt
complete-framed None n s y b = go (eqb n 0) b
  where
    go : (c b : Bool) → Framed (if_else c (Fate.Dropped Empty) (if_else b (Fate.Still (record { len = n; stamp = s; layer = y })) (Fate.Delivered (record { len = n; stamp = s; layer = y }))))
    go true b = tt
    go false true = tt
    go false false = tt

fate-framed : (e : Bool) (x : Run) → Framed (fate_of e x)
fate-framed true x = complete-framed x.fault x.bytes x.stamp x.layer x.still
fate-framed false x = tt

pub turn-framed : (o : Opening) (h : Header) (n : ℕ) (ph : Phase) (b : Bool) → Framed (turn_by ph o b h n).answer.fate
unfolding if_else
turn-framed o h n Fresh b = fate-framed (ends_of o h) (joined_of o (begun_of b h.fid h.still) h n)
turn-framed o h n (Past f) b = go (same_of f h.fid)
  where
    go : (c : Bool) → Framed (if_else c (stray_turn f n) (join_turn o (begun_of b h.fid h.still) h n None 0)).answer.fate
    go true = tt
    go false = fate-framed (ends_of o h) (joined_of o (begun_of b h.fid h.still) h n)
turn-framed o h n (Under x) b = go (same_of x.fid h.fid)
  where
    go : (c : Bool) → Framed (if_else c (join_turn o x h n None 0) (join_turn o (begun_of b h.fid h.still) h n (Some (why_of x.fault (turned_why o))) x.bytes)).answer.fate
    go true = fate-framed (ends_of o h) (joined_of o x h n)
    go false = fate-framed (ends_of o h) (joined_of o (begun_of b h.fid h.still) h n)
