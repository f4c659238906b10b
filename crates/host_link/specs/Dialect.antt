-- The bytes of a message and of its reply in a lane's dialect.
pub use Rattle.iso_message.specs.Dialect.{call_in, reply_in}
