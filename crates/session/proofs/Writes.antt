-- What a call writes to the lent buffer: the transfer's data straight after the frame's earlier data, or nothing; every other byte is what it was.
use Prim.Native.Nat.{ℕ, ◌+◌, ◌-◌, ◌≤◌, ◌<◌, ◌^◌}
use mathlib.Core.Path.{◌≡◌, refl, sym, subst, ◌∙◌}
use mathlib.Core.Bool.{true, false}
use mathlib.Core.List.{List}
use native.Mathlib.Omega.{arith}
use native.Mathlib.Nat.{add-sub_of_le}
use lib.ListN.{length, drop, get_or, length-drop}
use lib.Seq.{paste, paste-zero}
use Rattle.rules.specs.Numbered.{NoneOf}
use Rattle.rules.proofs.Rows.{none_row}
use Rattle.session_rules.specs.declared.Header.{Header}
use Rattle.session_rules.specs.declared.Reading.TheVariants.{Idle, Unreadable, Readable}
use Rattle.session_rules.specs.Transfer.{reading_of}
use Rattle.session_rules.proofs.Readings.{readable-fits}
use Rattle.session_rules.specs.declared.Turn.{Turn}
use Rattle.session_rules.specs.Accounts.{number_count}
use Rattle.copier.proofs.Written as copied
use Rattle.session_rules.specs.declared.Session.{Session}
use Rattle.session_rules.specs.Refusals.{take_rows}
use Rattle.session_rules.specs.Session.{turned, took_buffer, hands_out, met_buffer, buffer_of}
use Rattle.session_rules.specs.Writes.{Wrote}
use Rattle.short_way.proofs.Ready.{ready-able, take-ready}
use Rattle.session.proofs.Ready.{sits}
use Rattle.session.proofs.Calls.{not-handed}

wrote : (old src : List ℕ) (at len : ℕ) → at + len ≤ length old → len ≤ length src → Wrote old (paste old at src len) src at len
wrote old src at len f e =
    record {
      inside = f;
      enough = e;
      same_length = copied.same_length old src at len f e;
      written = copied.written old src at len f e;
      before = copied.before old src at len f e;
      after = λ i h. subst (λ (k : ℕ). get_or (paste old at src len) k 0 ≡ get_or old k 0) (add-sub_of_le h)
          (copied.after old src at len f e (i - (at + len)));
    }

module _ (s : Session) (buffer t : List ℕ) where
  abbrev Open : Type 0
  Open = NoneOf (take_rows s (length buffer) (length t))

  bare : Open → buffer_of s buffer t ≡ met_buffer s buffer t
  unfolding buffer_of
  bare o = rw (none_row (take_rows s (length buffer) (length t)) o)

  -- an idle or unreadable transfer writes nothing
  pub idle-writes-nothing : Open → reading_of s.rest.opening t ≡ Idle → buffer_of s buffer t ≡ buffer
  unfolding took_buffer
  idle-writes-nothing o e = bare o ∙ rw (not-handed s t Idle (sym e) tt, e)

  pub unreadable-writes-nothing : (k : ℕ) → Open → reading_of s.rest.opening t ≡ Unreadable k → buffer_of s buffer t ≡ buffer
  unfolding took_buffer
  unreadable-writes-nothing k o e = bare o ∙ rw (not-handed s t (Unreadable k) (sym e) tt, e)

  -- nor does a transfer that is not taken, because a frame is handed out
  pub handed-writes-nothing : Open → hands_out s t ≡ true → buffer_of s buffer t ≡ buffer
  handed-writes-nothing o e = bare o ∙ rw e

  module _ (h : Header) (o : Open) (e : reading_of s.rest.opening t ≡ Readable h) (taken : hands_out s t ≡ false) where
    abbrev pub turn : Turn
    turn = turned s h (length t - h.len)

    pasted : buffer_of s buffer t ≡ paste buffer turn.at (drop h.len t) turn.len
    unfolding took_buffer
    pasted = bare o ∙ rw (taken, e)

    -- a frame with a fault up to and with this transfer: nothing
    pub faulted-writes-nothing : turn.len ≡ 0 → buffer_of s buffer t ≡ buffer
    faulted-writes-nothing z = pasted ∙ rw z (sym (paste-zero buffer turn.at (drop h.len t)))

    -- a readable transfer: the data after its header
    pub readable-writes : length s.numbers ≡ number_count → s.rest.taken < 2 ^ 32 →
        Wrote buffer (buffer_of s buffer t) (drop h.len t) turn.at turn.len
    readable-writes places few =
        let f = take-ready s places few (length buffer) (length t) (none_row (take_rows s (length buffer) (length t)) o) in
        let q = sits s (ready-able s f.ready) h (length t - h.len) turn refl in
        let l = readable-fits s.rest.opening t h e in
        rw pasted (wrote buffer (drop h.len t) turn.at turn.len (omega (arith, q.inside, f.whole))
        (rw length-drop (omega (arith, q.short))))
