-- What can be wrong with the bytes of an item or of a list of items (RFC 9260 sections 3.2, 3.2.1
-- and 3.3.10, which say how long each is).
--
-- Another type than a reader expects, and running out of memory, are no faults of the bytes.
pub data Fault : Type 0 where
  -- a length field, or a value's size, breaks its rule
  Length : Fault
  -- padding that isn't accepted is there, or some is missing
  Padding : Fault
  -- a number that has no meaning in its field
  Value : Fault
