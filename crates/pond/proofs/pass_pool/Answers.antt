-- `pond::pass_pool` meets its contract: the pool starts at W 0 and outflow 0, and the ordinates behind the first are passed on.
use Rattle.std.proofs.Common.{ℕ, suc, ◌-◌, ◌<◌, ◌≡◌, sym, ◌∙◌, List, [], ◌∷◌, length, take, drop, set, arith, take_all}
use Rattle.sequences.specs.Bounds.{AllUpTo}
use Rattle.sequences.specs.Parts.{put, put_tail}
use Rattle.meaning.specs.Water.{flow_limit}
use Rattle.meaning.specs.Pool.{rows_of}
use Rattle.pond.specs.Turns.{ponded_none, ponded_by_first, above_by_first}
use Rattle.pond.proofs.pass_pool.Goals as goal

-- what is passed on is what came in behind the first
behind : (xs : List ℕ) → 0 < length xs → take (length (set xs 0 0) - 1) (drop 1 (set xs 0 0)) ≡ drop 1 xs
behind [] some = absurd (omega arith)
behind (x ∷ xs) some = take_all _ xs (omega arith)

behind_up : (xs : List ℕ) → 0 < length xs → AllUpTo flow_limit xs → AllUpTo flow_limit (drop 1 xs)
behind_up [] some up = absurd (omega arith)
behind_up (x ∷ xs) some up = λ k. up (suc k)

put_behind : (xs out : List ℕ) → 0 < length xs → put 1 (length (set xs 0 0) - 1) (set xs 0 0) out ≡ 0 ∷ out
put_behind [] out some = absurd (omega arith)
put_behind (x ∷ xs) out some = put_tail 1 (0 ∷ xs) out

pub returns-then-q-eq0 : goal.returns-then-q-eq0
returns-then-q-eq0 c =
    let x = c.args in
    let e = ponded_none x.m (rows_of x.svs.now x.sqs.now) x.q.now (omega arith) in
    record { q_after = e.0; over = e.1 }

pub pass_on-requires-clause-all_up_to : goal.pass_on-requires-clause-all_up_to
pass_on-requires-clause-all_up_to c = let q = c.args.q.now in rw (behind q (omega arith)) (behind_up q (omega arith) c.requires.all_up_to)

pub returns : goal.returns
returns c =
    let x = c.args in
    let rows = rows_of x.svs.now x.sqs.now in
    let q = x.q.now in
    let e = c.pass_on.ensures in
    record {
      q_after = put_behind q _ (omega arith) ∙ rw e.q_after (sym (ponded_by_first x.m rows q _ (omega arith) (behind q (omega arith))));
      over = e.over ∙ sym (above_by_first x.m rows q _ (omega arith) (behind q (omega arith)));
    }
