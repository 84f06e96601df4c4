use denote.Exit.{yes}
use denote.Param.Send.{IsSend, sendable, param_send, arg_send}
use Rattle.std.proofs.Crossing.{crosses}
use Rattle.book.proofs.Sending.{book_field_send}
use Rattle.http_front.specs.contracts.books.Books as books
use Rattle.tests_server.proofs.pools.workers_share_the_connections.Goals as goal

books_send : IsSend books.the_row
books_send = search (sendable, crosses, book_field_send) depth 40 fits 20000

pub pool-requires-send-A : goal.pool-requires-send-A
pool-requires-send-A g c κs = param_send 1 _ (arg_send _ yes _ books_send)
