-- What the functions have, in the order of their code.
use Rattle.std.specs.Prelude.{None, Option, Some}
use Rattle.rules.specs.Verdicts.{accept, refuse}
use Prim.Native.Nat.{ℕ, ◌≤◌, ◌<◌}
use mathlib.Core.Path.{◌≡◌, refl}
use mathlib.Core.List.{List}
use lib.ListN.{get_or}
use lib.Dec.{eqb}
use borrow.Author.Tests.{eq-eqb, ne_eqb}
use native.Mathlib.Omega.{arith}
use Rattle.rules.specs.IfElse.{if_else}
use Rattle.rules.proofs.Places.{first-place}
use Rattle.rules.proofs.Verdicts.{apart}
use Rattle.interfaces.specs.Limits.{no_stream}
use Rattle.interfaces.specs.Inner.{streams_of, place_of}
use Rattle.interfaces.specs.declared.Stream.{Stream}
use Rattle.interfaces.proofs.Listing.{streams-few}
use Rattle.alternate_settings.specs.Inner.{settings_of, fewest_from, fewest_of}
use Rattle.alternate_settings.specs.declared.Setting.{Setting}
use Rattle.configuration.specs.Inner.{ConfigurationIs, laid, blocks, sound, refused_by as refused_configuration, accepted_with}
use Rattle.configuration.specs.declared.Configuration.{Configuration}
use Rattle.picking.specs.Inner.{settings_in, refused_by, answer_of, PickIs, own, picks}
use Rattle.picking.specs.declared.Picked.{Picked}

pub place_in : (l : List Stream) (n i k : ℕ) → k ≡ place_of l n i → (k ≡ n → ⊥) → n ≤ 8 → k < 8
place_in l n i k e h b = let w = (first-place (λ j. eqb (get_or l j no_stream).interface i) n).within in omega (arith, e)

module _ (s : List ℕ) (l : List Stream) (n i p k : ℕ) (e : k ≡ place_of l n i) where
  pub no_stream_lem : k ≡ n → (x : Picked) → x ≡ refused_by 74 0 → x ≡ answer_of (fewest_of p (settings_in s l n i))
  unfolding settings_in answer_of fewest_from if_else
  no_stream_lem h x q = rw (← e, eq-eqb k n h) q

  module _ (h : k ≡ n → ⊥) (c : Option Setting) (f : c ≡ fewest_of p (settings_of s i (get_or l k no_stream).endpoint)) where
    chosen : c ≡ fewest_of p (settings_in s l n i)
    unfolding settings_in if_else
    chosen = rw (← e, ne_eqb k n h) f

    pub none-large : c ≡ None → (x : Picked) → x ≡ refused_by 74 0 → x ≡ answer_of (fewest_of p (settings_in s l n i))
    unfolding answer_of
    none-large y x q = rw (← chosen, y) q

    pub one-large : (z : Setting) → c ≡ Some z → record { verdict = accept; setting = z } ≡ answer_of (fewest_of p (settings_in s l n i))
    unfolding answer_of
    one-large z y = rw (← chosen, y)

-- ---- after the configuration's own refusals
module _ (s : List ℕ) where
  -- the streams of an accepted configuration are those of its bytes
  same-streams : {c : Configuration} → ConfigurationIs s c → c.verdict ≡ accept → (c.streams ≡ (streams_of s).streams) × (c.count ≡ (streams_of s).count)
  unfolding refused_configuration accepted_with
  same-streams (laid k o e) q = absurd (apart k o q)
  same-streams (blocks k o e l) q = absurd (apart k o q)
  same-streams (sound e l) q = (refl, refl)

  pub count-few : (c : Configuration) → ConfigurationIs s c → c.verdict ≡ accept → c.count ≤ 8
  count-few c r q = rw (same-streams r q).1 (streams-few s (streams_of s) refl)

  module _ (i p : ℕ) (c : Configuration) (r : ConfigurationIs s c) where
    pub own-refused : (k o : ℕ) → c.verdict ≡ refuse k o → (x : Picked) → x ≡ refused_by k o → PickIs s i p x
    own-refused k o e x q = rw q (own c k o r e)

    pub then-picked : c.verdict ≡ accept → (x : Picked) → x ≡ answer_of (fewest_of p (settings_in s c.streams c.count i)) → PickIs s i p x
    then-picked e x q = let t = same-streams r e in rw (q, t.0, t.1) (picks c r e)
