-- Names set class by class.
-- Assumes nothing.
use mathlib.Core.Path.{◌≡◌, refl, ◌∙◌}
use mathlib.Core.List.{List}
use Prim.Native.Nat.{ℕ, ◌+◌, ◌≤◌, ◌<◌}
use native.Mathlib.Omega.{arith}
use native.Mathlib.Decide.{dec_lt}
use lib.ListN.{length, get_or, set, length-set}
use lib.Seq.{get_or-set_same, get_or-set_other}
use Rattle.lowest.specs.Named.{NamesOfFirst}

-- the classes below n have their new names, the others what they named
pub record SetTo (new : ℕ → ℕ) (n : ℕ) (names names' : List ℕ) : Type 0 where
  pub size : length names' ≡ 512
  pub done : (c : ℕ) → c < n → get_or names' c 0 ≡ new c
  pub rest : (c : ℕ) → n ≤ c → get_or names' c 0 ≡ get_or names c 0

-- none is set yet
pub set_none : (new : ℕ → ℕ) {i : ℕ} {names : List ℕ} → NamesOfFirst i names → SetTo new 0 names names
set_none new f = record { size = f.size; done = λ c l. absurd (omega arith); rest = λ c l. refl }

-- what the next class names is one of the first
pub next_few : {new : ℕ → ℕ} {i n : ℕ} {names names' : List ℕ} → NamesOfFirst i names → SetTo new n names names' → n < 512 → get_or names' n 0 ≤ i
next_few {new} {i} {n} {names} {names'} f t h =
    let e : get_or names' n 0 ≡ get_or names n 0 = t.rest n (omega arith) in
    let l : get_or names n 0 ≤ i = f.few n h in
    omega arith

-- one class more is set
pub set_more : {new : ℕ → ℕ} {n : ℕ} {names names' : List ℕ} {r : ℕ} → SetTo new n names names' → n < 512 → r ≡ new n → SetTo new (n + 1) names (set names' n r)
set_more {new} {n} {names} {names'} {r} l h er = record {
  size = length-set names' n r ∙ l.size;
  done = λ c k. elim (dec_lt c n) [
    | yes b ↦ get_or-set_other names' n c r 0 (omega arith) ∙ l.done c b
    | no b ↦ let e : c ≡ n = omega arith in rw e (get_or-set_same names' n r 0 (omega (arith, l.size)) ∙ er)
  ];
  rest = λ c k. get_or-set_other names' n c r 0 (omega arith) ∙ l.rest c (omega arith);
}
