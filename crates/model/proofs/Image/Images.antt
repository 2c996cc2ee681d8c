-- The image and its policy: each is had back from the other.
-- Assumes nothing.
use mathlib.Core.Path.{◌≡◌, refl, sym, ap, ◌∙◌, subst}
use mathlib.Core.Bool.{Bool, true, false, not, cond, ◌||◌}
use mathlib.Core.List.{List, ◌++◌}
use Prim.Native.Nat.{ℕ, ◌+◌, ◌*◌, ◌/◌, ◌≤◌, ◌<◌}
use native.Mathlib.Omega.{arith}
use borrow.Author.Tests.{ltb-false, le-ltb, leb-false, lt-leb, eqb-true, not-false}
use lib.Dec.{eqb, ltb}
use lib.ListN.{length, replicate, length-replicate}
use Rattle.model.specs.Lists.{all_of}
use Rattle.model.specs.Policy.{Policy}
use Rattle.model.specs.Sound.{Sound, within_limits, fields_fit, groups_rise, pairs_fit, no_cycle, all_assigned}
use Rattle.model.specs.Refusal.{Answer, refused, accepted, answer}
use Rattle.model.specs.Bits.{bits_of, num_at}
use Rattle.model.specs.Image.{image_bits, image_of, read_policy, policy_in, bits_behind, other_form, is_cut, is_longer, stray_filling, breaks_rule, names_wrong, read_image}
use Rattle.model.proofs.Truth.{or_fails}
use Rattle.model.proofs.Image.Bits.{length_bits_of}
use Rattle.model.proofs.Image.Packed.{filling, bits_of_image, length_packed, packed_bytes, zeros_pass, packed_again, form_is}
use Rattle.model.proofs.Image.Lengths.{bits_length, bits_bounded}
use Rattle.model.proofs.Image.Groups.{reading}
use Rattle.model.proofs.Image.Policies.{form_is_one, read_policy_lem, policy_again}

or_three : (a b c : Bool) → (a || b || c) ≡ false → (a ≡ false) × (b ≡ false) × (c ≡ false)
or_three a b c e =
    let o = or_fails (a || b) c e in
    let t = or_fails a b o.0 in
    (t.0, t.1, o.1)

-- none of the lines for 11 to 14 holds of the image
record Passes (s : List ℕ) : Type 0 where
  form : other_form s ≡ false
  whole : is_cut s ≡ false
  ended : is_longer s ≡ false
  filled : stray_filling s ≡ false
  rules : breaks_rule (policy_in s) ≡ false
  names : names_wrong (policy_in s) ≡ false

passes_accepted : (s : List ℕ) → Passes s → read_image s ≡ accepted (policy_in s)
unfolding read_image answer
passes_accepted s c = rw (c.form, c.whole, c.ended, c.filled, c.rules, c.names)

-- a line that does not refuse
line_passed : (b : Bool) (n : ℕ) (a : Answer Policy) (p : Policy) → cond b (refused n) a ≡ accepted p → (b ≡ false) × (a ≡ accepted p)
line_passed true n a p e = let z : ◌≡◌ {A = ℕ} 0 1 = cc in absurd (omega arith)
line_passed false n a p e = (refl, e)

accepted_passes : (s : List ℕ) (p : Policy) → read_image s ≡ accepted p → Passes s × (policy_in s ≡ p)
unfolding read_image answer
accepted_passes s p e =
    let c₁ = line_passed (other_form s) 11 _ p e in
    let c₂ = line_passed (is_cut s || is_longer s || stray_filling s) 12 _ p c₁.1 in
    let c₃ = line_passed (breaks_rule (policy_in s)) 13 _ p c₂.1 in
    let c₄ = line_passed (names_wrong (policy_in s)) 14 _ p c₃.1 in
    let o = or_three (is_cut s) (is_longer s) (stray_filling s) c₂.0 in
    (record { form = c₁.0; whole = o.0; ended = o.1; filled = o.2; rules = c₃.0; names = c₄.0 }, cc c₄.1)

-- nothing breaks a rule or names what is wrong in a sound policy, and only there
sound_rules : (p : Policy) → Sound p → breaks_rule p ≡ false
unfolding breaks_rule
sound_rules p s = rw (s.limits, s.fields, s.order)

sound_names : (p : Policy) → Sound p → names_wrong p ≡ false
unfolding names_wrong
sound_names p s = rw (s.names, s.acyclic, s.assigned)

lines_sound : (p : Policy) → breaks_rule p ≡ false → names_wrong p ≡ false → Sound p
unfolding breaks_rule names_wrong
lines_sound p r n =
    let a = or_three (not (within_limits p)) (not (fields_fit p)) (not (groups_rise p)) r in
    let b = or_three (not (pairs_fit p)) (not (no_cycle p)) (not (all_assigned p)) n in
    record {
      limits = not-false (within_limits p) a.0;
      fields = not-false (fields_fit p) a.1;
      order = not-false (groups_rise p) a.2;
      names = not-false (pairs_fit p) b.0;
      acyclic = not-false (no_cycle p) b.1;
      assigned = not-false (all_assigned p) b.2;
    }

-- saving a sound policy and loading its image gives the policy
pub policy_read_back : (p : Policy) → Sound p → read_image (image_of p) ≡ accepted p
unfolding image_of is_cut is_longer stray_filling
policy_read_back p sound =
    let s : List ℕ = image_of p in
    let l : List Bool = image_bits p in
    let z : List Bool = replicate (filling l) false in
    let b : bits_of s ≡ l ++ z = (bits_of_image l).0 in
    let r : read_policy (bits_of s) ≡ reading p z = rw b (read_policy_lem p sound z) in
    let v : policy_in s ≡ p = λ i. (r i).value in
    let t : bits_behind s ≡ z = λ i. (r i).rest in
    let n : length s ≡ (length l + 7) / 8 = length_packed l in
    let m = bits_length p in
    let k : length z < 8 = rw (length-replicate (filling l) false) (bits_of_image l).1 in
    let f : other_form s ≡ not (eqb (num_at (bits_of s) 0 4) 1) = form_is s (packed_bytes l) (omega arith) in
    passes_accepted s (record {
      form = f ∙ rw (b, form_is_one p z);
      whole = rw v (le-ltb (8 * length s) (length l) (omega arith));
      ended = rw t (lt-leb 8 (length z) k);
      filled = rw (t, zeros_pass (filling l));
      rules = rw v (sound_rules p sound);
      names = rw v (sound_names p sound);
    }) ∙ ap accepted v

-- loading an image and saving its policy gives the image
pub image_written_back : (s : List ℕ) → all_of (λ b. ltb b 256) s ≡ true → (p : Policy) → read_image s ≡ accepted p → image_of p ≡ s
unfolding image_of is_cut is_longer stray_filling
image_written_back s bytes p e =
    let c = accepted_passes s p e in
    let l : List Bool = image_bits (policy_in s) in
    let rest : List Bool = bits_behind s in
    let n : length (bits_of s) ≡ 8 * length s = length_bits_of s in
    let m = bits_length (policy_in s) in
    let k : length l ≤ 8 * length s = ltb-false (8 * length s) (length l) c.0.whole in
    let f = not-false (eqb (num_at (bits_of s) 0 4) 1) (sym (form_is s bytes (omega arith)) ∙ c.0.form) in
    let w : bits_of s ≡ l ++ rest = policy_again (bits_of s) (eqb-true (num_at (bits_of s) 0 4) 1 f) (omega arith) in
    let b : image_of (policy_in s) ≡ s = packed_again s l rest bytes w (leb-false 8 (length rest) c.0.ended) (not-false (all_of not rest) c.0.filled) in
    subst (λ (q : Policy). image_of q ≡ s) c.1 b

-- what is accepted is sound
pub accepted_is_sound : (s : List ℕ) (p : Policy) → read_image s ≡ accepted p → Sound p
accepted_is_sound s p e = let c = accepted_passes s p e in subst Sound c.1 (lines_sound (policy_in s) c.0.rules c.0.names)

-- "The longest image is 15,115 bytes."
pub image_short : (p : Policy) → Sound p → length (image_of p) ≤ 15115
unfolding image_of
image_short p s =
    let n = length_packed (image_bits p) in
    let k = bits_bounded p s in
    omega arith

-- two sound policies with one image are one
pub image_unique : (p p' : Policy) → Sound p → Sound p' → image_of p ≡ image_of p' → p ≡ p'
image_unique p p' s s' e =
    let q : accepted p ≡ accepted p' = sym (policy_read_back p s) ∙ ap read_image e ∙ policy_read_back p' s' in
    cc
