-- Worked examples: bytes read and written, by computation.
-- Assumes nothing.
use mathlib.Core.Path.{◌≡◌, refl}
use mathlib.Core.List.{[], ◌∷◌}
use Rattle.model.specs.Bits.{bits_n, bits_of, bytes_of}
use Rattle.model.specs.Refusal.{refused, accepted}
use Rattle.model.proofs.Definitions.{definitions}
use Rattle.bits.specs.Cursor.{reading, written}

-- eight bits of 1010 0101 0011 1100 from bit 4 on are 0101 0011
across : reading (bits_of (0xa5 ∷ 0x3c ∷ [])) 4 8 ≡ accepted (record { value = 0x53; next = 12 })
unfolding reading definitions
across = refl

-- the last four bits of 1010 0101
to_the_end : reading (bits_of (0xa5 ∷ [])) 4 4 ≡ accepted (record { value = 5; next = 8 })
unfolding reading definitions
to_the_end = refl

-- of which there is no fifth
cut : reading (bits_of (0xa5 ∷ [])) 4 5 ≡ refused 12
unfolding reading definitions
cut = refl

-- 1001 into ones from bit 6 on: 1111 1110 0111 1111
put_across : bytes_of 2 (written (bits_of (0xff ∷ 0xff ∷ [])) 6 (bits_n 4 9)) ≡ 0xfe ∷ 0x7f ∷ []
unfolding written definitions
put_across = refl
