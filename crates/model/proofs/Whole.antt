-- The calls whole: a refused call writes nothing, an accepted one writes what it says and no more; save and load fit together; and some calls on
-- the small house, computed.
-- Assumes nothing.
use mathlib.Core.Path.{◌≡◌, refl, sym, ◌∙◌}
use mathlib.Core.Bool.{Bool, true, false}
use mathlib.Core.List.{List, [], ◌∷◌, ◌++◌}
use Prim.Native.Nat.{ℕ, ◌≤◌}
use borrow.Author.Tests.{le-ltb}
use lib.ListN.{length, take, drop}
use lib.Seq.{take-append_seam}
use Rattle.model.specs.Policy.{Policy}
use Rattle.model.specs.Contain.{contained}
use Rattle.model.specs.Refusal.{Answer, refused, accepted, answer}
use Rattle.model.specs.Request.{Request}
use Rattle.model.specs.Explain.{Row, Explained, rows}
use Rattle.model.specs.Command.{Command}
use Rattle.model.specs.Image.{image_lines, image_of, policy_in, read_image}
use Rattle.model.specs.Index.{index_of}
use Rattle.model.specs.Calls.{Memory, kept, contains, explain, new, load, save, build, command}
use Rattle.model.specs.Sound.{Sound}
use Rattle.model.specs.House.{house}
use Rattle.model.proofs.Refusals.{accepted_none}
use Rattle.model.proofs.Definitions.{definitions}
use Rattle.model.proofs.Image.Images.{policy_read_back}

-- "A refused call .. writes nothing": what was there stays
kept_old : {A B : Type 0} {told : Answer A} {n : ℕ} (next old : B) → told ≡ refused n → kept told next old ≡ old
unfolding kept
kept_old next old e = rw e

-- an accepted call leaves the new
kept_new : {A B : Type 0} {told : Answer A} {a : A} (next old : B) → told ≡ accepted a → kept told next old ≡ next
unfolding kept
kept_new next old e = rw e

-- a refused command leaves the table and the index
pub refused_command : (m : Memory) (index : List ℕ) (c : Command) {n : ℕ} → (command m index c).answers ≡ refused n
    → ((command m index c).table ≡ m.policy) × ((command m index c).index ≡ index)
unfolding command
refused_command m index c e = (kept_old _ m.policy e, kept_old _ index e)

-- a refused explanation leaves the lent rows
pub refused_explain : (m : Memory) (q : Request) (room : List Row) {n : ℕ} → (explain m q room).answers ≡ refused n → (explain m q room).leaves ≡ room
unfolding explain
refused_explain m q room e = kept_old _ room e

-- an accepted one writes its rows, and the rows beyond keep their contents
pub accepted_explain : (m : Memory) (q : Request) (room : List Row) {a : Explained} → (explain m q room).answers ≡ accepted a
    → (explain m q room).leaves ≡ rows (contained m.policy) m.policy q ++ drop (length (rows (contained m.policy) m.policy q)) room
unfolding explain
accepted_explain m q room e = kept_new _ room e

-- a refused save leaves the lent bytes
pub refused_save : (m : Memory) (room : List ℕ) {n : ℕ} → (save m room).answers ≡ refused n → (save m room).leaves ≡ room
unfolding save
refused_save m room e = kept_old _ room e

-- an accepted one writes the image, and no byte beyond
pub accepted_save : (m : Memory) (room : List ℕ) {n : ℕ} → (save m room).answers ≡ accepted n
    → (save m room).leaves ≡ image_of m.policy ++ drop (length (image_of m.policy)) room
unfolding save
accepted_save m room e = kept_new _ room e

-- a refused load leaves the table, and so does a refused new
pub refused_load : (fits : Bool) (image : List ℕ) (old : Policy) {n : ℕ} → (load fits image old).answers ≡ refused n → (load fits image old).table ≡ old
unfolding load
refused_load fits image old e = kept_old _ old e

pub refused_new : (fits : Bool) (old : Policy) {n : ℕ} → (new fits old).answers ≡ refused n → (new fits old).table ≡ old
unfolding new
refused_new fits old e = kept_old _ old e

-- a refused build leaves the index; an accepted one leaves the policy's
pub refused_build : (m : Memory) (index : List ℕ) {n : ℕ} → (build m index).answers ≡ refused n → (build m index).index ≡ index
unfolding build
refused_build m index e = kept_old _ index e

pub accepted_build : (m : Memory) (index : List ℕ) {a : List ℕ} → (build m index).answers ≡ accepted a → (build m index).index ≡ index_of m.policy
unfolding build
accepted_build m index e = kept_new _ index e

-- a load of an image that is read as a policy leaves that policy
pub loaded : (image : List ℕ) (p old : Policy) → read_image image ≡ accepted p → (load true image old).table ≡ p
unfolding load answer read_image
loaded image p old e = kept_new (policy_in image) old e ∙ sym (accepted_none (policy_in image) (image_lines image) e).1

-- Save and load: the bytes that save writes for a sound policy, loaded, are that policy, whatever the table was before.
pub saved_and_loaded : (p : Policy) → Sound p → (room : List ℕ) → length (image_of p) ≤ length room → (old : Policy)
    → (load true (take (length (image_of p)) (save (record { holds_table = true; policy = p }) room).leaves) old).table ≡ p
unfolding save answer
saved_and_loaded p s room fits old =
    rw (accepted_save m room granted, take-append_seam (image_of p) (drop (length (image_of p)) room)) (loaded (image_of p) p old (policy_read_back p s))
  where
    m : Memory
    m = record { holds_table = true; policy = p }

    granted : (save m room).answers ≡ accepted (length (image_of p))
    granted = rw (le-ltb (length room) (length (image_of p)) fits)

-- Computed on the small house: 9 is within 2, 2 is not within 9, and 512 is out of range.
pub house_contains : (contains (record { holds_table = true; policy = house }) 9 2 ≡ accepted true)
    × (contains (record { holds_table = true; policy = house }) 2 9 ≡ accepted false)
    × (contains (record { holds_table = true; policy = house }) 512 9 ≡ refused 2)
unfolding definitions
house_contains = (refl, refl, refl)

-- K2 explained: one row for each class of 10, with the association that gives the right there
pub house_explained : rows (contained house) house (record { process = 1; operation = 1; first = 10; second = 0; third = 0 })
    ≡ record { alternative = 1; argument = 1; right = 0; cause = 0; number = 1; attribute = 4; target = 8; rights = 1 }
    ∷ record { alternative = 1; argument = 1; right = 0; cause = 0; number = 2; attribute = 3; target = 7; rights = 3 }
    ∷ []
unfolding definitions
house_explained = refl
