-- What an accepted configuration lists is what its descriptors say, and so are the settings of an interface.
use Rattle.rules.specs.Verdicts.{accept}
use Prim.Native.Nat.{ℕ, ◌+◌, ◌-◌, ◌≤◌, ◌<◌}
use mathlib.Core.Path.{◌≡◌, refl, sym, ◌∙◌}
use mathlib.Core.List.{List}
use mathlib.Core.Logic.{◌⊎◌, inl, inr, ⊎_elim}
use lib.ListN.{length, drop, get_or, length-map, length-take, length-drop, get_or-eq_default}
use lib.Seq.{get_or-take, get_or-drop}
use lib.Dec.{eqb}
use borrow.Author.Tests.{eq-eqb, ne_eqb}
use native.Mathlib.Omega.{arith}
use Rattle.rules.specs.IfElse.{if_else}
use Rattle.rules.specs.Walk.{Clean}
use Rattle.rules.proofs.Firsts.{lt-or-ge}
use Rattle.rules.proofs.Verdicts.{apart}
use Rattle.streaming_rules.proofs.Fine.{head-sizes}
use Rattle.streaming.specs.Answer.{endpoint_of}
use Rattle.configuration_rules.specs.Descriptors.{interface_type, endpoint_type, type_at, after_at, packet_at, packet_bytes}
use Rattle.configuration_rules.specs.declared.Sought.TheVariants as sought
use Rattle.configuration_rules.specs.Words.{SettingOf, EndpointOf}
use Rattle.configuration_rules.proofs.Deciding as deciding
use Rattle.interfaces.specs.Line.{course}
use Rattle.interfaces.specs.Inner.{found, next_of, block_start, block_end, block_of, block_at, stream_at, listed_in}
use Rattle.interfaces.proofs.Lines.{after_on, next-is}
use Rattle.alternate_settings.specs.Inner as settings
use Rattle.alternate_settings.specs.Holding.{no_setting}
use Rattle.configuration_layout.specs.Words.{Starts}
use Rattle.configuration_layout.specs.Broken.{Laid}
use Rattle.configuration_layout.proofs.Walked.{lists, not-before, stands-there, later-behind}
use Rattle.configuration_layout.proofs.Few.{few}
use Rattle.configuration.specs.Inner.{refused_by, accepted_with, ConfigurationIs, laid, blocks, sound}
use Rattle.configuration.specs.declared.Configuration.{Configuration}
use Rattle.configuration_words.specs.Broken.{ListedAt, Sound}
use Rattle.configuration_words.specs.Listed.{StreamStands, Lists-all, Between, BytesAre, by-endpoint, no-endpoint, Settings-all}
use Rattle.configuration_words.proofs.Block.{block-lies, one_block}
use Rattle.configuration_words.proofs.Streams.{get_d_map, lists-streams, few-streams, count-is, stream-is, stream-past, listed_at}
use Rattle.configuration_words.proofs.ExactlyWhen.{place_is, accepted}

module _ (s : List ℕ) (clean : Clean (course s)) where
  -- ---- the bytes of a setting
  module _ (o a : ℕ) (b : Starts s o) where
    abbrev e : ℕ
    e = next_of (sought.Endpoint a) s (after_at s o)

    -- between here and what is found no interface descriptor and no endpoint of this address stands
    nothing-before : (p : ℕ) → Starts s p → o < p → p < e → (type_at s p ≡ interface_type) ⊎ EndpointOf s a p → ⊥
    nothing-before p d h x q = not-before s clean b.there b.inside (sought.Endpoint a) p d (later-behind s clean b.there b.inside p d h) x ((deciding.endpoint s p a).1 q)

    behind : o < e
    behind = omega (arith, (after_on s o b.inside).0, (next-is s (sought.Endpoint a) (after_at s o) (after_on s o b.inside).1).least)

    -- an endpoint that is found before the next interface descriptor
    found-one : e < length s → EndpointOf s a e → BytesAre s o a (packet_bytes (packet_at s e))
    found-one h q =
        by-endpoint e
        (record { starts = (stands-there s clean b.there b.inside (sought.Endpoint a) h).0; behind = behind; before = λ p d x y z. ⊎_elim (λ l. nothing-before p d x l (inl z)) (λ l. other p y l z) (lt-or-ge p e) })
        q (λ p d u. ⊎_elim (λ l. absurd (nothing-before p d.starts d.behind l (inr u))) (λ l. l) (lt-or-ge p e))
      where
        other : (p : ℕ) → p ≤ e → e ≤ p → type_at s p ≡ interface_type → ⊥
        other p x y z = let w : p ≡ e = omega arith in let v : endpoint_type ≡ interface_type = sym q.endpoint ∙ (rw w at z) in omega arith

    -- none, where an interface descriptor or the end comes first
    found_none : (e < length s → type_at s e ≡ interface_type) → BytesAre s o a 0
    found_none f = no-endpoint none
      where
        none : (p : ℕ) → Between s o p → EndpointOf s a p → ⊥
        none p d u =
            ⊎_elim (λ l. nothing-before p d.starts d.behind l (inr u))
            (λ l. let h : e < length s = omega (arith, d.starts.inside) in d.before e (stands-there s clean b.there b.inside (sought.Endpoint a) h).0 behind l (f h)) (lt-or-ge p e)

    past_end : length s ≤ e → type_at s e ≡ 0
    past_end h = get_or-eq_default s 0 (omega arith)

    pub bytes-are : BytesAre s o a (settings.bytes_at s o a)
    unfolding settings.bytes_at if_else
    bytes-are = ⊎_elim inside outside (lt-or-ge e (length s))
      where
        outside : length s ≤ e → BytesAre s o a (if_else (eqb (type_at s e) endpoint_type) (packet_bytes (packet_at s e)) 0)
        outside h = rw (ne_eqb (type_at s e) endpoint_type (λ q. omega (arith, past_end h))) (found_none (λ x. absurd (omega arith)))

        inside : e < length s → BytesAre s o a (if_else (eqb (type_at s e) endpoint_type) (packet_bytes (packet_at s e)) 0)
        inside h =
            ⊎_elim (λ q. rw (ne_eqb (type_at s e) endpoint_type (λ z. (let v : interface_type ≡ endpoint_type = sym q ∙ z in omega arith))) (found_none (λ x. q)))
            (λ q. rw (eq-eqb (type_at s e) endpoint_type q.endpoint) (found-one h q)) ((deciding.endpoint s e a).0 (stands-there s clean b.there b.inside (sought.Endpoint a) h).1)

-- ---- THE SETTINGS of an interface
module _ (s : List ℕ) (c : ℕ) (l : Laid s c) where
  pub settings-listed : (n a : ℕ) → Settings-all s n a (settings.settings_of s n a)
  unfolding settings.setting_at
  settings-listed n a =
      let w = lists s l.kept.each (sought.Setting n) (SettingOf s n) (λ o. deciding.setting s o n) in
      record {
        places = found (sought.Setting n) s 0;
        descriptors = w;
        count = length-map (found (sought.Setting n) s 0) (settings.setting_at s a);
        few = (few s l.kept.each l.few).1 n;
        each = λ i h. rw (get_d_map (settings.setting_at s a) (found (sought.Setting n) s 0) i no_setting h) (record { number = refl; bytes = bytes-are s l.kept.each (get_or (found (sought.Setting n) s 0) i 0) a (w.each i h).0 });
      }

-- ---- WHAT AN ACCEPTED CONFIGURATION LISTS
module _ (s : List ℕ) where
  -- the endpoint is that of the block's header
  endpoint-in : (o : ℕ) → Starts s o → 13 ≤ length (block_of s o) → (stream_at s o).endpoint ≡ endpoint_of (block_of s o)
  unfolding stream_at
  endpoint-in o b h =
      let n : 0 + 6 < block_end s o - block_start s o = omega (arith, simp (length-take, length-drop) at h) in
      sym (get_or-take (block_end s o - block_start s o) (drop (block_start s o) s) (0 + 6) 0 n ∙ get_or-drop (block_start s o) s (0 + 6) 0)

  same_answer : {r : Configuration} → ConfigurationIs s r → r.verdict ≡ accept → r ≡ accepted_with s
  unfolding refused_by
  same_answer (laid k o e) q = absurd (apart k o q)
  same_answer (blocks k o e l) q = absurd (apart k o q)
  same_answer (sound e l) q = refl

  pub stream-endpoint : (w : Sound s) (o : ℕ) → ListedAt s o → (stream_at s o).endpoint ≡ endpoint_of (block_of s o)
  stream-endpoint w o d =
      let r = w.blocks o d in
      let e = one_block s w.control.laid.kept.each o d.starts r.bytes r.block in
      endpoint-in o d.starts (rw e at (head-sizes _ r.bytes r.sound.walked.block).0)

  stands : (w : Sound s) (o : ℕ) → ListedAt s o → StreamStands s o (stream_at s o)
  unfolding stream_at
  stands w o d =
      record { number = refl; lies = block-lies s w.control.laid.kept.each o d.starts; endpoint = stream-endpoint w o d }

  pub lists-all : (r : Configuration) → ConfigurationIs s r → r.verdict ≡ accept → Lists-all s r
  unfolding accepted_with block_at
  lists-all r c v =
      let w = (accepted s r c).0 v in
      let l = w.control.laid in
      rw (same_answer c v)
      (record {
        control = w.place;
        one = l.one;
        number = rw (place_is s w.place l);
        lies = rw (place_is s w.place l) (block-lies s l.kept.each w.place l.one.starts);
        places = listed_in s;
        streams = lists-streams s w.place l;
        count = count-is s w.place l;
        few = few-streams s w.place l;
        each = λ i h. rw (stream-is s w.place l i h) (stands w (get_or (listed_in s) i 0) (listed_at s w.place l i h));
        unused = stream-past s w.place l;
      })
