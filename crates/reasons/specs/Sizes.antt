-- How many bytes a reason takes at most.
use Rattle.std.specs.Prelude.{ℕ, ◌+◌, ◌*◌}

-- Three numbers, each of 20 digits at most, behind blanks.
abbrev pub rules_size : ℕ
rules_size = 3 * 21

-- A word of six letters, a rule, and one number more.
abbrev pub why_size : ℕ
why_size = 6 + rules_size + 21

-- "FIELD ", the field's number, what is wrong, what stands in it, two blanks and the line's end. A line has 80 bytes at most.
abbrev pub reason_size : ℕ
reason_size = 6 + 20 + 1 + why_size + 1 + 80 + 1
