-- The numbers that a session draws, from its own number on.
use Rattle.std.specs.Prelude.{ℕ, zero, suc, ◌+◌, ◌*◌, ◌/◌, ◌%◌, ◌^◌}

-- the number after this one: a linear congruential generator modulo 2^31
abbrev pub next_number : ℕ → ℕ
next_number x = (x * 1103515245 + 12345) % 2 ^ 31

-- the number of a session before a round, counted from 0
abbrev pub number_before : ℕ → ℕ → ℕ
number_before session zero = session + 1
number_before session (suc round) = next_number (number_before session round)

-- the value that a number gives
abbrev pub value_of : ℕ → ℕ
value_of x = x / 65536 % 1000

-- the value of a round: that of the number after its step
abbrev pub value_in : ℕ → ℕ → ℕ
value_in session round = value_of (number_before session (suc round))
