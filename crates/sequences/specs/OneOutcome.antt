-- A contract that leaves one outcome only, said of a function's own `ensures` lines: `Post` of its generated module Reads is what they say of the arguments a, of the
-- result x and of the parameters e as they are left. Of two outcomes that meet it, `same` says what is equal. Where the lines are weakened the theorem falls.
use Rattle.std.specs.Prelude.{ℕ, List}
use contract.Lifetimes.{Lfts}
use denote.Triple.Clauses.{AtExit}
use borrow.Fn.Kinds.{ParamKind, ResultKind, Out, Dens, res_t, ended_of}

module _ {n : ℕ} (ps : List (ParamKind n)) (r : ResultKind n) where
  abbrev pub Result : Lfts n → Type 0
  Result κs = (res_t r κs).Denot

  abbrev pub Left : Lfts n → Type 0
  Left κs = AtExit (ended_of n ps r) κs

  abbrev pub Once : Out n ps r → ((κs : Lfts n) → Result κs → Result κs → Left κs → Left κs → Type 0) → Type 0
  Once post same = (κs : Lfts n) (a : Dens κs ps) (x y : Result κs) (e f : Left κs) → post κs a x e → post κs a y f → same κs x y e f

  -- where what is the same is said by the arguments too
  abbrev pub OnceAt : Out n ps r → ((κs : Lfts n) → Dens κs ps → Result κs → Result κs → Left κs → Left κs → Type 0) → Type 0
  OnceAt post same = (κs : Lfts n) (a : Dens κs ps) (x y : Result κs) (e f : Left κs) → post κs a x e → post κs a y f → same κs a x y e f
