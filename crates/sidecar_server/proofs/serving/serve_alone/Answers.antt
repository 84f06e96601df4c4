use Rattle.std.proofs.Common.{◌∙◌, ap}
use Rattle.sidecar_server.proofs.serving.serve_alone.Goals as goal

pub returns-clause-served : goal.returns-clause-served
returns-clause-served g c =
    ((c.in_ok-books.books, c.serve_connections-ended.new.answerer, c.in_ok-books.ensures, c.serve_connections-ended.ensures.served, ap (λ books. books.items) c.served.ensures.left.0 ∙ c.in_ok-books-2.ensures), ap (λ counts. counts.items) c.served.ensures.left.1 ∙ c.new-counts.ensures.items)
