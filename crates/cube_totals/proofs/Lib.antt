-- `Table`: the table of marks, cell by cell. `Lines`: lines from the table are lines of the cube.
pub mod Table
pub mod Lines
