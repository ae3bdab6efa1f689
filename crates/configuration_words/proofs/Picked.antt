-- What is picked: 74 exactly where nothing holds the payload size, a setting exactly where it has the fewest bytes of those that hold.
use Rattle.std.specs.Prelude.{None, Option, Some}
use Rattle.rules.specs.Verdicts.{accept, refuse}
use Prim.Native.Nat.{ℕ, ◌<◌}
use mathlib.Core.Path.{◌≡◌, refl, sym, ap, ◌∙◌}
use mathlib.Core.List.{List, []}
use mathlib.Core.Bool.{Bool, true, false}
use mathlib.Core.Logic.{◌⊎◌, inl, inr, ⊎_elim, ◌↔◌}
use lib.ListN.{length, get_or}
use lib.Dec.{eqb}
use borrow.Author.Tests.{eq-eqb, ne_eqb, eqb-true, eqb-false}
use native.Mathlib.Omega.{arith}
use native.Mathlib.Nat.{eq-or-lt_of_le}
use Rattle.rules.specs.IfElse.{if_else}
use Rattle.rules.proofs.Firsts.{lt-or-ge}
use Rattle.rules.proofs.Verdicts.{apart, clash, same-refusal}
use Rattle.rules.proofs.Rows.{given-each}
use Rattle.rules.proofs.Places.{first-place}
use Rattle.blocks.specs.Blocks.{whole_rows}
use Rattle.control.specs.Broken as control-broken
use Rattle.control.proofs.ExactlyWhen.{head_few, rows_few}
use Rattle.streaming_rules.specs.Rules as streaming-rules
use Rattle.streaming.specs.Answer.{endpoint_of}
use Rattle.streaming.specs.Broken as streaming-broken
use Rattle.configuration_rules.specs.Descriptors.{number_at}
use Rattle.interfaces.specs.Limits.{no_stream}
use Rattle.interfaces.specs.Inner.{block_of, listed_in, streams_of, place_of}
use Rattle.alternate_settings.specs.Inner.{settings_of, fewest_of}
use Rattle.alternate_settings.specs.Holding.{no_setting, Holds, Fewest, NoneHolds}
use Rattle.alternate_settings.specs.declared.Setting.{Setting}
use Rattle.alternate_settings.proofs.Picking.{nothing-exactly, fewest-exactly}
use Rattle.configuration_layout.specs.Broken as layout-broken
use Rattle.configuration.specs.Inner.{ConfigurationIs}
use Rattle.configuration.specs.declared.Configuration.{Configuration}
use Rattle.picking.specs.Inner.{settings_in, settings_for, refused_by, answer_of, PickIs, own, picks}
use Rattle.picking.specs.declared.Picked.{Picked}
use Rattle.configuration_words.specs.Broken.{Sound, FirstBroken, by_layout, by-control, by-73, by-streaming}
use Rattle.configuration_words.specs.Picked.{FirstOf, SettingsAre, HoldsIn, PickedIn, Picks}
use Rattle.configuration_words.proofs.Block.{block-is, one_block}
use Rattle.configuration_words.proofs.Streams.{lists-streams, count-is, stream-is, listed_at, place-of, unnamed, number_is}
use Rattle.configuration_words.proofs.ExactlyWhen.{accepted, refused}
use Rattle.configuration_words.proofs.Listed.{stream-endpoint}

-- ---- reading a configuration never gives 74
module _ (s : List ℕ) where
  stream-few : {t : _} {b : List ℕ} {k x : ℕ} → streaming-broken.FirstBroken t b k x → k < 74
  unfolding whole_rows streaming-rules.head_rows streaming-rules.rows streaming-rules.kind_rows
  stream-few (streaming-broken.by-block k g) = given-each (λ k. k < 74) g (omega arith)
  stream-few (streaming-broken.by-descriptor k o b f) = given-each (λ k. k < 74) f.given (omega arith)
  stream-few (streaming-broken.by-36 a w i l f) = omega arith
  stream-few (streaming-broken.by-37 a w c i l f) = omega arith
  stream-few (streaming-broken.by-38 a w c d e) = omega arith

  control-few : {b : List ℕ} {k x : ℕ} → control-broken.FirstBroken b k x → k < 74
  control-few {b} (control-broken.by-block k g) = omega (arith, head_few b g)
  control-few {b} (control-broken.by-descriptor k o z f) = omega (arith, rows_few b f)
  control-few (control-broken.by-13 l o z h r e) = omega arith
  control-few (control-broken.by-14 l o z h r a e) = omega arith
  control-few (control-broken.by-15 l o z h r a c e) = omega arith

  not-74 : {k o : ℕ} → FirstBroken s k o → k ≡ 74 → ⊥
  not-74 (by_layout k o f) e = layout-few f e
    where
      layout-few : {k o : ℕ} → layout-broken.FirstMislaid s k o → k ≡ 74 → ⊥
      layout-few (layout-broken.by-70-whole n) e = omega arith
      layout-few (layout-broken.by-70 o w f) e = omega arith
      layout-few (layout-broken.by-71 w c n) e = omega arith
      layout-few (layout-broken.by-72-none k n) e = omega arith
      layout-few (layout-broken.by-72-second o k c) e = omega arith
      layout-few (layout-broken.by-75 o c k d f) e = omega arith
  not-74 (by-control c b l q k x f) e = omega (arith, control-few f)
  not-74 (by-73 c b l w j h n) e = omega arith
  not-74 (by-streaming c b l w n o d h z q k x f) e = omega (arith, stream-few f)

  -- ---- the settings that are picked from
  module _ (w : Sound s) (i : ℕ) where
    abbrev n : ℕ
    n = (streams_of s).count

    abbrev r : ℕ
    r = place_of (streams_of s).streams (streams_of s).count i

    none-listed : r ≡ n → settings_for s i ≡ []
    unfolding settings_in if_else
    none-listed e = rw (eq-eqb r n e)

    module _ (h : r ≡ n → ⊥) where
      inside : r < length (listed_in s)
      inside = let f = first-place (λ j. eqb (get_or (streams_of s).streams j no_stream).interface i) n in omega (arith, f.within, count-is s w.place w.control.laid)

      o : ℕ
      o = get_or (listed_in s) r 0

      first-listed : FirstOf s i o
      unfolding o
      first-listed =
          let l = w.control.laid in
          let f = first-place (λ j. eqb (get_or (streams_of s).streams j no_stream).interface i) n in
          let b : r < n = omega (arith, inside, count-is s w.place l) in
          record {
            listed = listed_at s w.place l r inside;
            number = eqb-true (number_at s (get_or (listed_in s) r 0)) i (sym (number_is s w.place l i r inside) ∙ f.here b);
            earliest = λ q d e. let j = place-of s w.place l q d in
                ⊎_elim
                (λ x. absurd (f.before j.0 x (number_is s w.place l i j.0 j.1 ∙ eq-eqb (number_at s (get_or (listed_in s) j.0 0)) i (ap (λ (z : ℕ). number_at s z) j.2 ∙ e))))
                (λ x. ⊎_elim (λ y. omega (arith, j.2, ap (λ (z : ℕ). get_or (listed_in s) z 0) y)) (λ y. omega (arith, j.2, (lists-streams s w.place l).order r j.0 y j.1)) (eq-or-lt_of_le {n = r} {m = j.0} x))
                (lt-or-ge j.0 r);
          }

      settings-at : settings_for s i ≡ settings_of s i (endpoint_of (block_of s o))
      unfolding settings_in if_else o
      settings-at =
          let l = w.control.laid in
          rw (ne_eqb r n h, stream-is s w.place l r inside, stream-endpoint s w (get_or (listed_in s) r 0) (listed_at s w.place l r inside))

      settings-are : SettingsAre s i (settings_for s i)
      settings-are =
          record { place = o; first = first-listed; bytes = block_of s o; block = block-is s w.control.laid.kept.each o first-listed.listed.starts; same = settings-at }

    -- there is one first
    one-first : (a b : ℕ) → FirstOf s i a → FirstOf s i b → a ≡ b
    one-first a b f g = omega (arith, f.earliest b g.listed g.number, g.earliest a f.listed f.number)

    some-listed : (a : ℕ) → FirstOf s i a → r ≡ n → ⊥
    some-listed a f e = unnamed s w.place w.control.laid i e (record { place = a; listed = f.listed; number = f.number })

    -- where there is one, they are its settings
    same-settings : (l : List Setting) → SettingsAre s i l → settings_for s i ≡ l
    same-settings l a =
        let h = some-listed a.place a.first in
        let e = one-first (o h) a.place (first-listed h) a.first in
        let b = one_block s w.control.laid.kept.each a.place a.first.listed.starts a.bytes a.block in
        settings-at h ∙ (rw (e, ← b) (sym a.same))

    empty : (p : ℕ) (x : Setting) → r ≡ n → Holds (settings_for s i) p x → ⊥
    empty p x e h = let z : length (settings_for s i) ≡ 0 = ap length (none-listed e) in omega (arith, h.inside)

    either : (r ≡ n) ⊎ (r ≡ n → ⊥)
    either = go (eqb r n) refl
      where
        go : (b : Bool) → eqb r n ≡ b → (r ≡ n) ⊎ (r ≡ n → ⊥)
        go true e = inl (eqb-true r n e)
        go false e = inr (eqb-false r n e)

    module _ (p : ℕ) where
      none_in : NoneHolds (settings_for s i) p ↔ ((x : Setting) → HoldsIn s i p x → ⊥)
      none_in = (
        λ h x d. h x (rw (same-settings d.settings d.are) d.holds),
        λ h x d. ⊎_elim (λ e. empty p x e d) (λ e. h x (record { settings = settings_for s i; are = settings-are e; holds = d })) either,
      )

      picked-in : (x : Setting) → Fewest (settings_for s i) p x ↔ PickedIn s i p x
      picked-in x = (
        λ f. ⊎_elim (λ e. absurd (empty p x e f.holds)) (λ e. record { settings = settings_for s i; are = settings-are e; fewest = f }) either,
        λ d. rw (same-settings d.settings d.are) d.fewest,
      )

  -- ---- EXACTLY WHEN
  module _ (i p : ℕ) where
    split : (c : Option Setting) (z : Setting) → c ≡ None → c ≡ Some z → ⊥
    split c z e q = let y : ◌≡◌ {A = ℕ} 0 1 = cc in omega arith

    same-setting : (c : Option Setting) (y z : Setting) → c ≡ Some y → c ≡ Some z → y ≡ z
    same-setting c y z e q = cc

    -- after the configuration's own refusals
    module _ (c : Configuration) (a : ConfigurationIs s c) (e : c.verdict ≡ accept) where
      w : Sound s
      w = (accepted s c a).0 e

      never : (k o : ℕ) → FirstBroken s k o → ⊥
      never k o f = clash c.verdict k o ((refused s c a k o).1 f) e

      chosen : (h : Option Setting) → fewest_of p (settings_for s i) ≡ h → Picks s i p (answer_of h)
      unfolding answer_of refused_by
      chosen None q = record {
        own-refusal = λ k o n. (λ v. absurd (n (sym (same-refusal 74 0 k o v).0)), λ f. absurd (never k o f));
        no-setting = (λ v. (w, (none_in w i p).0 ((nothing-exactly (settings_for s i) p).0 q)), λ d. refl);
        setting = λ y. (λ v. absurd (apart 74 0 v.0), λ d. absurd (split _ y q ((fewest-exactly (settings_for s i) p y).1 ((picked-in d.0 i p y).1 d.1))));
      }
      chosen (Some z) q = record {
        own-refusal = λ k o n. (λ v. absurd (apart k o (sym v)), λ f. absurd (never k o f));
        no-setting = (λ v. absurd (apart 74 0 (sym v)), λ d. absurd (split _ z ((nothing-exactly (settings_for s i) p).1 ((none_in d.0 i p).1 d.1)) q));
        setting = λ y. (
          λ v. (w, (picked-in w i p y).0 (rw v.1 at ((fewest-exactly (settings_for s i) p z).0 q))),
          λ d. (refl, same-setting _ z y q ((fewest-exactly (settings_for s i) p y).1 ((picked-in d.0 i p y).1 d.1))),
        );
      }

    pub picked : {x : Picked} → PickIs s i p x → Picks s i p x
    unfolding refused_by
    picked (picks c a e) = chosen c a e (fewest_of p (settings_for s i)) refl
    picked (own c j q a e) = record {
      own-refusal = λ k o n. (λ v. (refused s c a k o).0 (e ∙ v), λ f. sym e ∙ (refused s c a k o).1 f);
      no-setting = (λ v. absurd (not-74 ((refused s c a j q).0 e) (same-refusal j q 74 0 v).0), λ d. absurd (clash c.verdict j q e ((accepted s c a).1 d.0)));
      setting = λ y. (λ v. absurd (apart j q v.0), λ d. absurd (clash c.verdict j q e ((accepted s c a).1 d.0)));
    }

    -- A REFUSED PICK is all zero
    pub zero-pick : {x : Picked} → PickIs s i p x → (k o : ℕ) → x.verdict ≡ refuse k o → x.setting ≡ no_setting
    unfolding answer_of refused_by
    zero-pick (own c j q a e) k o v = refl
    zero-pick (picks c a e) k o v = go (fewest_of p (settings_for s i)) v
      where
        go : (h : Option Setting) → (answer_of h).verdict ≡ refuse k o → (answer_of h).setting ≡ no_setting
        go None v = refl
        go (Some z) v = absurd (apart k o (sym v))
