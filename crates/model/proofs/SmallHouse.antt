-- The small house: K1 to K12 of 01 as one table under one statement; and 01's two images and its desk example.
-- Assumes nothing.
use mathlib.Core.Path.{◌≡◌, refl}
use mathlib.Core.List.{[], ◌∷◌, map}
use Rattle.model.specs.Policy.{Policy, empty_policy, class}
use Rattle.model.specs.Contain.{contained}
use Rattle.model.specs.Image.{image_of, read_image}
use Rattle.model.specs.Refusal.{accepted}
use Rattle.model.specs.Desk.{desk}
use Rattle.model.specs.Sound.{Sound}
use Rattle.model.specs.Index.{index_bit}
use Rattle.model.specs.House.{house, cases, answer_to, answer_in, a_request, denies, ◌is◌}
use Rattle.model.proofs.Definitions.{definitions}

pub small_house : map (answer_in contained) cases ≡ map (λ k. k.outcome) cases
unfolding definitions
small_house = refl

-- the same with containment as the index tells it
pub small_house_indexed : map (answer_in index_bit) cases ≡ map (λ k. k.outcome) cases
unfolding definitions
small_house_indexed = refl

-- "copy with {0} on the object and {1} on the attribute is a deny": 5 holds 0 over 9 and 1 over 7, and neither alternative's rights
pub mixed_copy_denied : answer_to contained house (a_request (record { process = 1; operation = 6; first = 9; second = 7; third = 0 })) ≡ denies 1 2
unfolding definitions
mixed_copy_denied = refl

pub house_sound : Sound house
unfolding definitions
house_sound = record { limits = refl; fields = refl; order = refl; names = refl; acyclic = refl; assigned = refl }

-- "Empty policy: `10 00 00 00 00 00 00`. Class 1 alone: `10 08 00 00 00 00 00 34`."
pub empty_image : image_of empty_policy ≡ 0x10 ∷ 0 ∷ 0 ∷ 0 ∷ 0 ∷ 0 ∷ 0 ∷ []
unfolding definitions
empty_image = refl

abbrev one_class : Policy
one_class = record { elements = 1 is class ∷ []; assignments = []; associations = []; prohibitions = []; processes = [] }

pub class_image : image_of one_class ≡ 0x10 ∷ 8 ∷ 0 ∷ 0 ∷ 0 ∷ 0 ∷ 0 ∷ 0x34 ∷ []
unfolding definitions
class_image = refl

pub class_image_read : read_image (0x10 ∷ 8 ∷ 0 ∷ 0 ∷ 0 ∷ 0 ∷ 0 ∷ 0x34 ∷ []) ≡ accepted one_class
unfolding definitions
class_image_read = refl

-- "P 1 0 0 0 0", "R 4"
pub desk_example : desk (0 ∷ 8 ∷ 0x10 ∷ 8 ∷ 0 ∷ 0 ∷ 0 ∷ 0 ∷ 0 ∷ 0x34 ∷ 1 ∷ 0x10 ∷ 8 ∷ 0 ∷ 0 ∷ [])
    ≡ 80 ∷ 32 ∷ 49 ∷ 32 ∷ 48 ∷ 32 ∷ 48 ∷ 32 ∷ 48 ∷ 32 ∷ 48 ∷ 10 ∷ 82 ∷ 32 ∷ 52 ∷ 10 ∷ []
unfolding definitions
desk_example = refl

-- the house is its image, and back
pub house_image_read : read_image (image_of house) ≡ accepted house
unfolding definitions
house_image_read = refl
