-- a place in the bytes
pub use Rattle.wsrep_base.specs.Place.{Place, place_in}
