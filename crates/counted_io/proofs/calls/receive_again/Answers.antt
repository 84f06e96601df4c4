use Rattle.std.proofs.Common.{rules, arith, ◌≡◌, ◌∷◌, [], ◌++◌, subst, sym}
use Rattle.std.proofs.lemmas.List.{length-append}
use Rattle.std.specs.IoError.{error_kind}
use Rattle.std.specs.declared.io.ErrorKind.TheVariants.{Interrupted}
use Rattle.counted_io.specs.Calls.{IsInterrupted, IsTried}
use Rattle.counted_io.proofs.Tries.{heard_on, all_on, tried_at_last}
use Rattle.counted_io.proofs.calls.receive_again.Goals as goal

pub tries-preserved : goal.tries-preserved
tries-preserved g c =
    let (tries, heard, all, count) = c.tries.invariant.tried in
    let kind : error_kind c.in-Err.error ≡ Interrupted = search rules in
    let interrupted : IsInterrupted c.receive.result = subst (λ given. IsInterrupted given) (sym c.in-Err.is) kind in
    record {
      kept = search rules;
      apart = search rules;
      other = search rules;
      tried = (
        tries ++ c.receive.result ∷ [],
        heard_on (g.T.Stream.read_answers c.args.stream.now) (g.T.Stream.read_answers c.tries.stream) (g.T.Stream.read_answers c.receive.new.self) tries (c.receive.result ∷ []) heard c.receive.ensures.heard,
        all_on tries c.receive.result all interrupted,
        omega (arith, count, length-append tries (c.receive.result ∷ [])),
      );
    }

pub returns-in_default-clause-tried : goal.returns-in_default-clause-tried
returns-in_default-clause-tried g c =
    let (tries, heard, all, count) = c.tries.invariant.tried in
    subst (λ answer. IsTried 16 (g.T.Stream.read_answers c.args.stream.now) (g.T.Stream.read_answers c.receive.new.self) answer) c.in-Err.is
    (tried_at_last (g.T.Stream.read_answers c.args.stream.now) (g.T.Stream.read_answers c.tries.stream) _ tries _ c.tries.tried heard c.receive.ensures.heard all count (search rules) (λ is. search rules))

pub returns-in_default-2-clause-tried : goal.returns-in_default-2-clause-tried
returns-in_default-2-clause-tried g c =
    let (tries, heard, all, count) = c.tries.invariant.tried in
    tried_at_last (g.T.Stream.read_answers c.args.stream.now) (g.T.Stream.read_answers c.tries.stream) _ tries _ c.tries.tried heard c.receive.ensures.heard all count (search rules) (λ is. search rules)

pub returns-clause-tried : goal.returns-clause-tried
returns-clause-tried g c =
    let (tries, heard, all, count) = c.tries.invariant.tried in
    tried_at_last (g.T.Stream.read_answers c.args.stream.now) (g.T.Stream.read_answers c.tries.stream) _ tries _ c.tries.tried heard c.receive-2.ensures.heard all count (search rules) (λ is. search rules)
