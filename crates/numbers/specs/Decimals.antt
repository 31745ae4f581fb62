-- A number is two runs of digits, with a point between them where there are two, and zeros behind the second: what the definition, which cuts at the first
-- point, makes of a text whose first run of digits ends at `n`.
use Rattle.std.specs.Prelude.{ℕ, zero, suc, ◌+◌, ◌-◌, ◌^◌, ◌≤◌, ◌<◌, ◌≡◌, Bool, true, false, replicate}
use Rattle.std.proofs.Math.Path.{refl, sym, ap}
use Rattle.std.proofs.Common.{◌∙◌, add-zero, add-one, arith, length-append, take_all}
use mathlib.Core.List.{List, [], ◌∷◌, ◌++◌, append-nil, append_assoc}
use borrow.Author.Tests.{ne_eqb}
use Rattle.std.proofs.Math.ListN.{length, take, drop, get_or, length-drop, drop_of_length-le}
use Rattle.std.proofs.Math.Seq.{drop-cons, split_at, length-take-le}
use Rattle.meaning.specs.Words.{when◌then◌else◌}
use Rattle.meaning.specs.Fields.{trim_end}
use Rattle.meaning.specs.Numbers.{NoNumber, Decimal, is_digit, is_zero, before_point, behind_point, all_digits, read_on, fraction_left, decimal_of}
use Rattle.sequences.specs.Choices.{taken, in_range}
use Rattle.sequences.specs.Runs.{run, every, run_within, run_stops, every-run, every_append, not_every, is_every, test_tells}
use Rattle.sequences.specs.Digits.{read_on-append, fraction_split}
use Rattle.sequences.specs.Trimming.{trim_front}
use Rattle.numbers.specs.declared.Digits.{Digits}
use Rattle.numbers.specs.Reading.{counted, digits_from}
use Rattle.numbers.specs.Digits.{read_on_below}

digits-every : (l : List ℕ) → all_digits l ≡ every is_digit l
unfolding all_digits
digits-every = is_every is_digit all_digits refl (λ b l. refl)

-- no digit is a point
before_run : (s : List ℕ) → before_point s ≡ take (run is_digit s) s ++ before_point (drop (run is_digit s) s)
unfolding run before_point when◌then◌else◌
before_run [] = refl
before_run (b ∷ s) = go (is_digit b) refl (before_run s)
  where
    go : (t : Bool) → is_digit b ≡ t → before_point s ≡ take (run is_digit s) s ++ before_point (drop (run is_digit s) s)
        → before_point (b ∷ s) ≡ take (when t then suc (run is_digit s) else 0) (b ∷ s) ++ before_point (drop (when t then suc (run is_digit s) else 0) (b ∷ s))
    go true e ih = rw (test_tells is_digit b 0x2E e refl) (ap (λ (l : List ℕ). b ∷ l) ih)
    go false e ih = refl

behind-run : (s : List ℕ) → behind_point s ≡ behind_point (drop (run is_digit s) s)
unfolding run behind_point when◌then◌else◌
behind-run [] = refl
behind-run (b ∷ s) = go (is_digit b) refl (behind-run s)
  where
    go : (t : Bool) → is_digit b ≡ t → behind_point s ≡ behind_point (drop (run is_digit s) s)
        → behind_point (b ∷ s) ≡ behind_point (drop (when t then suc (run is_digit s) else 0) (b ∷ s))
    go true e ih = rw (test_tells is_digit b 0x2E e refl) ih
    go false e ih = refl

-- the zeros that are taken off are digits
every-zeros : (z : ℕ) → every is_digit (replicate z 0x30) ≡ true
unfolding every
every-zeros zero = refl
every-zeros (suc z) = every-zeros z

-- digits only, before and behind the point; or something else
decimal_digits : (minus : Bool) (s ds ws ls : List ℕ) → before_point s ++ behind_point s ≡ ds → before_point s ≡ ws → fraction_left s ≡ ls → every is_digit ds ≡ true
    → decimal_of minus s ≡ counted minus (read_on 0 (ws ++ ls)) (length ds) (length ls)
unfolding decimal_of counted
decimal_digits minus s ds ws ls e f g h = rw (e, f, g, digits-every, h)

decimal_none : (minus : Bool) (s xs : List ℕ) (b : ℕ) (ys : List ℕ) → before_point s ++ behind_point s ≡ xs ++ (b ∷ ys) → is_digit b ≡ false
    → NoNumber ≡ decimal_of minus s
unfolding decimal_of when◌then◌else◌
decimal_none minus s xs b ys e h = rw (e, digits-every, not_every is_digit xs b ys h)

module _ (minus : Bool) (s : List ℕ) (n : ℕ) (first : n ≡ run is_digit s) where
  n_within : n ≤ length s
  n_within = omega (arith, run_within is_digit s)

  cut_before : before_point s ≡ take n s ++ before_point (drop n s)
  cut_before = rw first (before_run s)

  cut-behind : behind_point s ≡ behind_point (drop n s)
  cut-behind = rw first (behind-run s)

  pub whole-only : length s ≤ n → decimal_of minus s ≡ counted minus (read_on 0 (take n s)) n 0
  unfolding before_point behind_point fraction_left trim_end
  whole-only h =
      let z : drop n s ≡ [] = drop_of_length-le s h in
      let p : behind_point s ≡ [] = cut-behind ∙ rw z in
      let w : before_point s ≡ take n s = rw (cut_before, z, append-nil) in
      let d : before_point s ++ behind_point s ≡ take n s = rw (w, p, append-nil) in
      decimal_digits minus s (take n s) (take n s) [] d w (rw p) (rw first (every-run is_digit s))
      ∙ rw (append-nil, length-take-le n s n_within)

  module _ (more : n < length s) where
    pub no_point : (get_or s n 0 ≡ 0x2E → ⊥) → NoNumber ≡ decimal_of minus s
    unfolding before_point behind_point when◌then◌else◌
    no_point h =
        let t = drop (suc n) s in
        let z : drop n s ≡ get_or s n 0 ∷ t = drop-cons s n 0 more in
        let e : before_point s ++ behind_point s ≡ take n s ++ (get_or s n 0 ∷ (before_point t ++ behind_point t)) =
        rw (cut_before, cut-behind, z, ne_eqb (get_or s n 0) 0x2E h) (append_assoc (take n s) _ _) in
        decimal_none minus s (take n s) (get_or s n 0) _ e (rw first (run_stops is_digit s (omega arith)))

    module _ (point : get_or s n 0 ≡ 0x2E) where
      whole_run : before_point s ≡ take n s
      unfolding before_point when◌then◌else◌
      whole_run = rw (cut_before, drop-cons s n 0 more, point, append-nil)

      last_run : behind_point s ≡ drop (n + 1) s
      unfolding behind_point when◌then◌else◌
      last_run = rw (add-one, cut-behind, drop-cons s n 0 more, point)

      abbrev left : List ℕ
      left = trim_end is_zero (drop (n + 1) s)

      left_is : fraction_left s ≡ left
      unfolding fraction_left
      left_is = ap (trim_end is_zero) last_run

      both_runs : before_point s ++ behind_point s ≡ take n s ++ drop (n + 1) s
      both_runs = rw (whole_run, last_run)

      abbrev zeros : List ℕ
      zeros = replicate (fraction_split s).0 0x30

      with_zeros : drop (n + 1) s ≡ left ++ zeros
      with_zeros = sym last_run ∙ (fraction_split s).1 ∙ ap (λ (l : List ℕ). l ++ zeros) left_is

      module _ (m : ℕ) (second : m ≡ run is_digit left) where
        pub not_digits : m < length left → NoNumber ≡ decimal_of minus s
        not_digits h =
            let b = get_or left m 0 in
            let rest = drop (suc m) left ++ zeros in
            let cut : drop (n + 1) s ≡ take m left ++ (b ∷ rest) =
            with_zeros ∙ ap (λ (l : List ℕ). l ++ zeros) (split_at left m 0 h) ∙ append_assoc (take m left) (b ∷ drop (suc m) left) zeros in
            let e : before_point s ++ behind_point s ≡ (take n s ++ take m left) ++ (b ∷ rest) =
            both_runs ∙ ap (λ (l : List ℕ). take n s ++ l) cut ∙ sym (append_assoc (take n s) (take m left) (b ∷ rest)) in
            decimal_none minus s (take n s ++ take m left) b rest e (rw second (run_stops is_digit left (omega arith)))

        pub point_digits : length left ≤ m
            → decimal_of minus s ≡ counted minus (read_on (read_on 0 (take n s)) (take m left)) (n + length (drop (n + 1) s)) (length left)
        point_digits h =
            let all : take m left ≡ left = take_all m left h in
            let ours : every is_digit left ≡ true = ap (every is_digit) (sym all) ∙ rw second (every-run is_digit left) in
            let behind : every is_digit (drop (n + 1) s) ≡ true = ap (every is_digit) with_zeros ∙ every_append is_digit left zeros ours (every-zeros (fraction_split s).0) in
            decimal_digits minus s (take n s ++ drop (n + 1) s) (take n s) left both_runs whole_run left_is
            (every_append is_digit (take n s) (drop (n + 1) s) (rw first (every-run is_digit s)) behind)
            ∙ rw (read_on-append, length-append, length-take-le n s n_within, all)

-- The same by what the runs of digits answer. The first of them:
module _ (s : List ℕ) (d : Digits) (found : d ≡ digits_from s 0 0) where
  first_run : d.end ≡ run is_digit s
  first_run = ap (λ (x : Digits). x.end) found ∙ omega arith

  pub first_within : d.end ≤ length s
  first_within = omega (arith, first_run, run_within is_digit s)

  first_value : read_on 0 (take d.end s) ≡ d.value
  first_value = ap (λ (k : ℕ). read_on 0 (take k s)) first_run ∙ sym (ap (λ (x : Digits). x.value) found)

  -- a number of so many digits is below that power of ten
  pub first_below : d.value < 10 ^ d.end
  first_below =
      let below = read_on_below 0 1 (take d.end s) (digits-every (take d.end s) ∙ rw first_run (every-run is_digit s)) (omega arith) in
      omega (arith, rw (first_value, length-take-le d.end s first_within) at below)

module _ (minus : Bool) (s : List ℕ) (d : Digits) (found : d ≡ digits_from s 0 0) where
  abbrev first : d.end ≡ run is_digit s
  first = first_run s d found

  pub read_whole : length s ≤ d.end → counted minus d.value d.end 0 ≡ decimal_of minus s
  read_whole h = rw (← first_value s d found) (sym (whole-only minus s d.end first h))

  pub read_no_point : d.end < length s → (get_or s d.end 0 ≡ 0x2E → ⊥) → NoNumber ≡ decimal_of minus s
  read_no_point = no_point minus s d.end first

  module _ (more : d.end < length s) (point : get_or s d.end 0 ≡ 0x2E) where
    abbrev fraction : List ℕ
    fraction = drop (d.end + 1) s

    abbrev kept : List ℕ
    kept = trim_end is_zero fraction

    -- the point is the last byte
    pub read_no_fraction : length fraction < 1 → counted minus d.value d.end 0 ≡ decimal_of minus s
    unfolding trim_end read_on run
    read_no_fraction h =
        let short : length s ≤ d.end + 1 = omega (arith, length-drop (d.end + 1) s) in
        let none : fraction ≡ [] = drop_of_length-le s short in
        let all = point_digits minus s d.end first more point (run is_digit kept) refl (rw none (omega arith)) in
        rw (← first_value s d found) (sym (rw (none, add-zero) at all))

    module _ (places : ℕ) (few : places ≡ length kept) (r : Digits) (after : r ≡ digits_from (take places fraction) 0 d.value) where
      -- what is read behind the point is what is left of the fraction
      kept_read : take places fraction ≡ kept
      kept_read = ap (λ (k : ℕ). take k fraction) few ∙ trim_front is_zero fraction

      second_run : r.end ≡ run is_digit kept
      second_run = ap (λ (x : Digits). x.end) after ∙ ap (λ (l : List ℕ). 0 + run is_digit l) kept_read ∙ omega arith

      second_value : r.value ≡ read_on (read_on 0 (take d.end s)) (take (run is_digit kept) kept)
      second_value =
          ap (λ (x : Digits). x.value) after ∙ ap (λ (l : List ℕ). read_on d.value (take (run is_digit l) l)) kept_read
          ∙ ap (λ (v : ℕ). read_on v (take (run is_digit kept) kept)) (sym (first_value s d found))

      pub read_not_digits : r.end < places → NoNumber ≡ decimal_of minus s
      read_not_digits h = not_digits minus s d.end first more point (run is_digit kept) refl (omega (arith, second_run, few))

      pub read-places : places ≤ r.end → 1 ≤ length fraction → length s ≤ 10 → Decimal minus r.value places ≡ decimal_of minus s
      unfolding counted
      read-places h some short =
          let count : d.end + length fraction ≡ length s - 1 = simp length-drop (omega arith) in
          let all = point_digits minus s d.end first more point (run is_digit kept) refl (omega (arith, second_run, few)) in
          rw (second_value, few) (taken _ (in_range 1 9 (d.end + length fraction) (omega arith) (omega arith)) refl ∙ sym all)
