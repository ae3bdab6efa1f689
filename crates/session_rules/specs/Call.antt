use Rattle.std.specs.Prelude.{ℕ, List}

-- What a caller asks: to take a transfer, to note a lost one, to close.
pub data Ask : Type 0 where
  transfer : List ℕ → Ask
  lost : Ask
  close : Ask

-- THE LIST holds the calls taken in order: transfers with their bytes, lost reports, close; and the marks of hand-outs (document 02, Two), each where the call that
-- handed out was made. The transfer that such a call offered is not taken.
pub data Call : Type 0 where
  transfer : List ℕ → Call
  lost : Call
  handed : Call
  close : Call

-- a call as it stands in the list, where it is taken
abbrev pub heard_of : Ask → Call
heard_of (Ask.transfer t) = Call.transfer t
heard_of Ask.lost = Call.lost
heard_of Ask.close = Call.close
