use Rattle.std.proofs.Common.{◌∷◌, [], List, drop, length, get_or, arith}
use Rattle.std.specs.Prelude.{Contains, replicate}
use Rattle.std.proofs.lemmas.List.Elements.{All-append, All-contains_itself, All-drop, All-replicate, Contains-append_left, Contains-append_right}
use Rattle.sv39_walk.specs.declared.cache.Read.{Read}
use Rattle.sv39_walk.proofs.reads.in_slots.Goals as goal

pub returns-clause-found : goal.returns-clause-found
returns-clause-found c =
    rw c.copy_from_slice.ensures.after
    (λ k d h. Contains-append_left c.args.reads.now (drop (length c.args.reads.now) (replicate 4 c.args.spare)) (get_or c.args.reads.now k d) (All-contains_itself c.args.reads.now k d h))

pub returns-clause-each : goal.returns-clause-each
returns-clause-each c =
    let all : List Read = c.args.spare ∷ c.args.reads.now in
    rw c.copy_from_slice.ensures.after
    (All-append (Contains all) c.args.reads.now (drop (length c.args.reads.now) (replicate 4 c.args.spare))
    (λ k d h. Contains-append_right (c.args.spare ∷ []) c.args.reads.now (get_or c.args.reads.now k d) (All-contains_itself c.args.reads.now k d h))
    (All-drop (Contains all) (length c.args.reads.now) (replicate 4 c.args.spare) (All-replicate (Contains all) 4 c.args.spare (Contains-append_left (c.args.spare ∷ []) c.args.reads.now c.args.spare (All-contains_itself (c.args.spare ∷ []) 0 c.args.spare (omega arith))))))
